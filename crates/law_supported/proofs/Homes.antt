-- A block is the block of its own region, a comprehension is none, and a name that a region has is a function's or a comprehension's.
use Rattle.std.proofs.Common.{◌≡◌, ◌⊎◌, inl, inr, ℕ, zero, suc, ◌+◌, Bool, true, false, if◌then◌else◌, List, [], ◌∷◌, Option, Some, None, refl, sym, ap, ◌∙◌, subst, arith, eq-eqb, eqb-true}
use Rattle.std.specs.Prelude.{◌==◌, ◌||◌, slice_get}
use Rattle.std.specs.List.{AllByRecursion, list_any}
use Rattle.pt_scopes.specs.declared.region.Facts.{Facts}
use Rattle.pt_scopes.specs.declared.region.Kind.{Kind}
use Rattle.pt_scopes.specs.declared.region.Kind.TheVariants as kind
use Rattle.pt_scopes.specs.declared.region.Region.{Region}
use Rattle.pt_scopes.specs.declared.region.Verdict.TheVariants.{Own, Nobody, Outwards}
use Rattle.pt_scopes.specs.Mentions.{places_script}
use Rattle.pt_scopes.specs.Scope.{home_at, home_of, owner, owner_from, owns, settled, verdict, verdict_at}
use Rattle.pt_tree.specs.Syntax.{Stms}
use Rattle.sem_names.specs.Regions.{around_in, before, deeper, depth_of, further, is_among, is_comprehension, outside, outside_comprehension}
use Rattle.law_names.proofs.module_names.Homes.{OfKind, regions_have_homes}
use Rattle.law_operands.proofs.law_files.code_files.Each.{each_at}
use Rattle.pt_supported.specs.Built.{Built}
use Rattle.law_operands.proofs.free_names.Outwards.{comprehension_of, never, nothing_is}
use Rattle.law_supported.proofs.Plain.{IsBlock, Starts, blocks_start}

-- a name that a region has: a function's, or a comprehension's

pub record Owner (rs : List Region) (look : ℕ → Facts) (q : ℕ) : Type 0 where
  pub here : Region
  pub at : slice_get rs q ≡ Some here
  pub is_function : here.kind ≡ kind.Function
  pub owns_it : owns (look q) ≡ true

pub record OwnerWithin (rs : List Region) (look : ℕ → Facts) (q : ℕ) : Type 0 where
  pub here : Region
  pub at : slice_get rs q ≡ Some here
  pub is_comprehension : here.kind ≡ kind.Comprehension
  pub owns_it : owns (look q) ≡ true

module _ (rs : List Region) (look : ℕ → Facts) (q : ℕ) where
  abbrev HasOwner : Type 0
  HasOwner = Owner rs look q ⊎ OwnerWithin rs look q

  by_function : (r : ℕ) (here : Region) → slice_get rs r ≡ Some here → here.kind ≡ kind.Function → (own global : Bool) → owns (look r) ≡ own
      → (f : ℕ → Option ℕ) → settled (if own then Own else if global then Nobody else Outwards here.around) r f ≡ Some q
      → (f here.around ≡ Some q → HasOwner) → HasOwner
  by_function r here at k true global e f is rest =
      let same : r ≡ q = (let there : Some r ≡ Some q = is in cc) in
      inl (record {
        here = here;
        at = subst (λ p. slice_get rs p ≡ Some here) same at;
        is_function = k;
        owns_it = subst (λ p. owns (look p) ≡ true) same e;
      })
  by_function r here at k false true e f is rest = nothing_is q is
  by_function r here at k false false e f is rest = rest is

  by_comprehension : (r : ℕ) (here : Region) → slice_get rs r ≡ Some here → here.kind ≡ kind.Comprehension → (own : Bool) → owns (look r) ≡ own
      → (f : ℕ → Option ℕ) → settled (if own then Own else Outwards here.around) r f ≡ Some q → (f here.around ≡ Some q → HasOwner) → HasOwner
  by_comprehension r here at k true e f is rest =
      let same : r ≡ q = (let there : Some r ≡ Some q = is in cc) in
      inr (record {
        here = here;
        at = subst (λ p. slice_get rs p ≡ Some here) same at;
        is_comprehension = k;
        owns_it = subst (λ p. owns (look p) ≡ true) same e;
      })
  by_comprehension r here at k false e f is rest = rest is

  by_kind : (k : Kind) (r : ℕ) (here : Region) → here.kind ≡ k → slice_get rs r ≡ Some here → (f : ℕ → Option ℕ)
      → settled (verdict (look r) here k) r f ≡ Some q → (f here.around ≡ Some q → HasOwner) → HasOwner
  by_kind kind.Module r here e at f is rest = nothing_is q is
  by_kind kind.Function r here e at f is rest = by_function r here at e (owns (look r)) (look r).global refl f is rest
  by_kind kind.Class r here e at f is rest = rest is
  by_kind kind.Comprehension r here e at f is rest = by_comprehension r here at e (owns (look r)) refl f is rest

  by_region : (r : ℕ) (o : Option Region) → slice_get rs r ≡ o → (f : ℕ → Option ℕ) → settled (verdict_at (look r) o) r f ≡ Some q
      → ((p : ℕ) → f p ≡ Some q → HasOwner) → HasOwner
  by_region r None at f is rest = nothing_is q is
  by_region r (Some here) at f is rest = by_kind here.kind r here refl at f is (λ there. rest here.around there)

  pub owner_is : (n r : ℕ) → owner n rs look r ≡ Some q → HasOwner
  owner_is zero r is = nothing_is q is
  owner_is (suc n) r is = by_region r (slice_get rs r) refl (λ p. owner n rs look p) is (λ p there. owner_is n p there)

-- a name that a comprehension owns is its own, seen from it

own_at : (regions : List Region) (look : ℕ → Facts) (q : ℕ) (o : OwnerWithin regions look q) (f : ℕ → Option ℕ) → settled (verdict_at (look q) (slice_get regions q)) q f ≡ Some q
own_at regions look q o f =
    ap (λ r. settled (verdict_at (look q) r) q f) o.at ∙ ap (λ k. settled (verdict (look q) o.here k) q f) o.is_comprehension
    ∙ ap (λ b. settled (if b then Own else Outwards o.here.around) q f) o.owns_it

pub seen_from_itself : (ss : Stms) (look : ℕ → Facts) (q : ℕ) → OwnerWithin (places_script ss).regions look q → owner_from (places_script ss).regions look q ≡ Some q
seen_from_itself ss look q o = own_at (places_script ss).regions look q o _

-- the region that an item of a list is, for which something holds
each_region : (P : ℕ → Type 0) (xs : List ℕ) (r : ℕ) → AllByRecursion P xs → is_among xs r ≡ true → P r
each_region P [] r h is = never is
each_region P (x ∷ xs) r h is = by (x == r) refl is (each_region P xs r h.1)
  where
    by : (b : Bool) → (x == r) ≡ b → (b || is_among xs r) ≡ true → (is_among xs r ≡ true → P r) → P r
    by true e among rest = subst P (eqb-true x r e) h.0
    by false e among rest = rest among

-- where a region stands, if it is a block

pub record Standing (rs : List Region) (r : ℕ) : Type 0 where
  pub here : Region
  pub at : slice_get rs r ≡ Some here
  pub is_block : IsBlock here.kind

standing : (rs : List Region) (r : ℕ) → Starts 0 rs r → Standing rs r
standing rs r s =
    let none_before : 0 + s.place ≡ s.place = omega arith in
    record { here = s.here; at = ap (slice_get rs) (s.same ∙ none_before) ∙ s.at; is_block = s.is_block }

one_region : (x y : Region) (r : ℕ) (rs : List Region) → slice_get rs r ≡ Some x → slice_get rs r ≡ Some y → x ≡ y
one_region x y r rs e f = let there : Some x ≡ Some y = sym e ∙ f in cc

module _ (ss : Stms) (built : Built ss) where
  abbrev rs : List Region
  rs = (places_script ss).regions

  pub block_stands : (b h : ℕ) → slice_get (places_script ss).blocks b ≡ Some h → Standing rs h
  block_stands b h at = standing rs h (each_at (Starts 0 rs) (places_script ss).blocks b h at (blocks_start ss built))

  -- a comprehension is no block
  pub no_block : (r : ℕ) (here : Region) → slice_get rs r ≡ Some here → here.kind ≡ kind.Comprehension → is_among (places_script ss).blocks r ≡ false
  no_block r here at is = by (is_among (places_script ss).blocks r) refl
    where
      by : (b : Bool) → is_among (places_script ss).blocks r ≡ b → b ≡ false
      by true e =
          let s = standing rs r (each_region (Starts 0 rs) (places_script ss).blocks r (blocks_start ss built) e) in
          let same : s.here ≡ here = one_region s.here here r rs s.at at in
          absurd (subst IsBlock (ap (λ (r : Region). r.kind) same ∙ is) s.is_block)
      by false e = refl

  home_by : (k : Kind) (r : ℕ) (here : Region) → here.kind ≡ k → slice_get rs r ≡ Some here → IsBlock k → here.home ≡ r
  home_by kind.Module r here e at p = subst (λ k. OfKind rs r here k) e (regions_have_homes ss r here at)
  home_by kind.Function r here e at p = subst (λ k. OfKind rs r here k) e (regions_have_homes ss r here at)
  home_by kind.Class r here e at p = subst (λ k. OfKind rs r here k) e (regions_have_homes ss r here at)
  home_by kind.Comprehension r here e at p = absurd p

  -- a block belongs to itself
  pub home_is : (r : ℕ) → Standing rs r → home_of rs r ≡ r
  home_is r s = ap (home_at r) s.at ∙ home_by s.here.kind r s.here refl s.at s.is_block

  not_deeper : (k : Kind) (a : ℕ) (f : ℕ → ℕ) → IsBlock k → deeper (if is_comprehension k then Some a else None) f ≡ 0
  not_deeper kind.Module a f p = refl
  not_deeper kind.Function a f p = refl
  not_deeper kind.Class a f p = refl
  not_deeper kind.Comprehension a f p = absurd p

  no_depth_at : (o : Option Region) (here : Region) → o ≡ Some here → IsBlock here.kind → (f : ℕ → ℕ) → deeper (outside_comprehension o) f ≡ 0
  no_depth_at o here at p f = ap (λ o. deeper (outside_comprehension o) f) at ∙ not_deeper here.kind here.around f p

  -- and stands in no comprehension
  pub no_depth : (r : ℕ) → Standing rs r → depth_of rs r ≡ 0
  no_depth r s = no_depth_at (slice_get rs r) s.here s.at s.is_block _

  deep_at : (o : Option Region) (here : Region) → o ≡ Some here → here.kind ≡ kind.Comprehension → (f : ℕ → ℕ) (n : ℕ) → deeper (outside_comprehension o) f ≡ n
      → (d : ℕ) × (n ≡ suc d)
  deep_at o here at is f n e = (
    f here.around,
    sym e ∙ ap (λ o. deeper (outside_comprehension o) f) at ∙ ap (λ k. deeper (if is_comprehension k then Some here.around else None) f) is,
  )

  -- a name of a comprehension has a dot before it
  pub has_depth : (r : ℕ) (here : Region) → slice_get rs r ≡ Some here → here.kind ≡ kind.Comprehension → (d : ℕ) × (depth_of rs r ≡ suc d)
  has_depth r here at is = deep_at (slice_get rs r) here at is _ (depth_of rs r) refl

  -- a comprehension isn't the region of a block
  pub apart : (h r : ℕ) (here : Region) → Standing rs h → slice_get rs r ≡ Some here → here.kind ≡ kind.Comprehension → (r == h) ≡ false
  apart h r here s at is = by (r == h) refl
    where
      by : (b : Bool) → (r == h) ≡ b → b ≡ false
      by true e =
          let same : s.here ≡ here = one_region s.here here h rs s.at (subst (λ p. slice_get rs p ≡ Some here) (eqb-true r h e) at) in
          absurd (subst IsBlock (ap (λ (r : Region). r.kind) same ∙ is) s.is_block)
      by false e = refl

  -- a function that owns a name is a block
  pub function_stands : (look : ℕ → Facts) (q : ℕ) → Owner rs look q → Standing rs q
  function_stands look q o = record { here = o.here; at = o.at; is_block = subst IsBlock (sym o.is_function) tt }

  -- from a region of a block outwards no other block is left before the block is reached

  leaves_none : (h n r : ℕ) (b : Bool) → (r == h) ≡ b → home_of rs r ≡ h → ((p : ℕ) → home_of rs p ≡ h → list_any (is_among (places_script ss).blocks) (before n rs h p) ≡ false)
      → list_any (is_among (places_script ss).blocks) (if b then [] else r ∷ further (outside (slice_get rs r)) (λ p. before n rs h p)) ≡ false
  leaves_none h n r true same home rest = refl
  leaves_none h n r false same home rest = by (slice_get rs r) refl
    where
      by : (o : Option Region) → slice_get rs r ≡ o
          → (is_among (places_script ss).blocks r || list_any (is_among (places_script ss).blocks) (further (outside o) (λ p. before n rs h p))) ≡ false
      by None at = never (sym same ∙ eq-eqb r h (sym (ap (home_at r) at) ∙ home))
      by (Some here) at =
          comprehension_of rs (regions_have_homes ss) h r here at home same
          (λ k around.
          ap (λ (b : Bool). b || list_any (is_among (places_script ss).blocks) (further (outside (Some here)) (λ p. before n rs h p))) (no_block r here at k)
          ∙ ap (λ k. list_any (is_among (places_script ss).blocks) (further (around_in here.around k) (λ p. before n rs h p))) k ∙ rest here.around around)

  pub stays_inside : (h n r : ℕ) → home_of rs r ≡ h → list_any (is_among (places_script ss).blocks) (before n rs h r) ≡ false
  stays_inside h zero r home = refl
  stays_inside h (suc n) r home = leaves_none h n r (r == h) refl home (λ p around. stays_inside h n p around)
