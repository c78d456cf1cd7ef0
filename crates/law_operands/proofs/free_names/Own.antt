-- A name that a block itself has from further out is among its free names, where declarations have no fault.
use Rattle.std.proofs.Common.{if◌then◌else◌, ◌≡◌, ◌⊎◌, inl, inr, ℕ, zero, suc, ◌<◌, ◌≤◌, Bool, true, false, not, List, [], ◌∷◌, ◌++◌, length, Option, Some, None, refl, sym, ap, ◌∙◌, subst, arith, eq-eqb, eqb-true, bytes_eq}
use Rattle.std.specs.Prelude.{◌==◌, ◌&&◌, ◌||◌, is_some, slice_get}
use Rattle.std.specs.List.{list_any}
use Rattle.std.proofs.lemmas.Slice.Eq.{bytes_eq-Decides}
use Rattle.pt_scopes.specs.declared.region.Earlier.{Earlier}
use Rattle.pt_scopes.specs.declared.region.Facts.{Facts}
use Rattle.pt_scopes.specs.declared.region.Kind.{Kind}
use Rattle.pt_scopes.specs.declared.region.Kind.TheVariants as kind
use Rattle.pt_scopes.specs.declared.region.Mention.{Mention}
use Rattle.pt_scopes.specs.declared.region.Region.{Region}
use Rattle.pt_scopes.specs.declared.region.Role.{Role}
use Rattle.pt_scopes.specs.declared.region.Role.TheVariants.{Read, Bind, Parameter, Global, Nonlocal, Misplaced}
use Rattle.pt_scopes.specs.declared.region.Verdict.TheVariants.{Own, Nobody, Outwards}
use Rattle.pt_scopes.specs.declared.scope.Scope.TheVariants as scope
use Rattle.pt_scopes.specs.declared.scope.ScopeErr.{ScopeErr}
use Rattle.pt_scopes.specs.Mentions.{places_script}
use Rattle.pt_scopes.specs.Places.{Places}
use Rattle.pt_scopes.specs.Refusals.{around_at, earlier, fault, fault_at, fault_of, first_fault, is_offered, or_else}
use Rattle.pt_scopes.specs.Scope.{bound_scope, declared_scope, facts, home_of, is_captured, is_class, is_nonlocal, is_of, meant, meant_at, owner, owner_from, owns, scope_at, scope_in, settled, unbound_scope, verdict, verdict_at}
use Rattle.pt_tree.specs.Syntax.{Name, Stms}
use Rattle.sem_control.specs.control.Turn as T
use Rattle.sem_names.specs.BlockNames.{free_names, named_at}
use Rattle.sem_names.specs.Naming.{as_control, is_between, is_free_at, own, scope_or_global, seen}
use Rattle.sem_names.specs.Regions.{before, further, is_among, outside}
use Rattle.sem_names.specs.Script.{functions_of, naming_script}
use Rattle.law_names.proofs.module_names.Variables.{module_region}
use Rattle.law_files.proofs.code_files.Each.{weaken}
use Rattle.law_operands.specs.free_names.FreeNames.{Among, NamedIsFree}
use Rattle.law_operands.proofs.free_names.Backwards.{stands_earlier}
use Rattle.law_operands.proofs.free_names.Outwards.{never, nothing_is, or_left}
use Rattle.law_operands.proofs.free_names.Searches.{owner_more}
use Rattle.law_operands.proofs.free_names.Taken.{between, free_is_among}

within : {A : Type 0} (xs : List A) (i : ℕ) (x : A) → slice_get xs i ≡ Some x → i < length xs
within [] i x at = nothing_is x at
within (y ∷ ys) zero x at = omega arith
within (y ∷ ys) (suc i) x at = let less = within ys i x at in omega (arith, less)

-- what is declared or found for a name that is free

record IsOutwards (f : Facts) (o : Option ℕ) : Type 0 where
  not_global : f.global ≡ false
  not_own : owns f ≡ false
  found : (f.nonlocal ≡ true) ⊎ (is_some o ≡ true)

not_bound : {X : Type 0} (c : Bool) (k : Kind) → as_control (bound_scope c k) ≡ T.free → X
not_bound true kind.Module is = absurd (let same : T.global ≡ T.free = is in cc)
not_bound false kind.Module is = absurd (let same : T.global ≡ T.free = is in cc)
not_bound true kind.Function is = absurd (let same : T.cell ≡ T.free = is in cc)
not_bound false kind.Function is = absurd (let same : T.local ≡ T.free = is in cc)
not_bound true kind.Class is = absurd (let same : T.of_class ≡ T.free = is in cc)
not_bound false kind.Class is = absurd (let same : T.of_class ≡ T.free = is in cc)
not_bound true kind.Comprehension is = absurd (let same : T.cell ≡ T.free = is in cc)
not_bound false kind.Comprehension is = absurd (let same : T.local ≡ T.free = is in cc)

by_facts : (binds global nonlocal c : Bool) (k : Kind) (o : Option ℕ)
    → as_control (if global then scope.Global else if nonlocal then scope.Free else if binds then bound_scope c k else unbound_scope o) ≡ T.free
    → (global ≡ false) × ((binds && not global && not nonlocal) ≡ false) × ((nonlocal ≡ true) ⊎ (is_some o ≡ true))
by_facts b true n c k o is = absurd (let same : T.global ≡ T.free = is in cc)
by_facts true false true c k o is = (refl, refl, inl refl)
by_facts false false true c k o is = (refl, refl, inl refl)
by_facts true false false c k o is = not_bound c k is
by_facts false false false c k None is = absurd (let same : T.global ≡ T.free = is in cc)
by_facts false false false c k (Some q) is = (refl, refl, inr refl)

is_outwards : (f : Facts) (c : Bool) (k : Kind) (o : Option ℕ) → as_control (declared_scope f c k o) ≡ T.free → IsOutwards f o
is_outwards f c k o is =
    let h = by_facts f.binds f.global f.nonlocal c k o is in
    record { not_global = h.0; not_own = h.1; found = h.2 }

-- a name that is declared to be of a function around has one

or_none : (o p : Option ScopeErr) → or_else o p ≡ None → (o ≡ None) × (p ≡ None)
or_none None p is = (refl, is)
or_none (Some e) p is = absurd (let same : Some e ≡ None = is in cc)

by_role : (b : Bool) (m : Mention) (e : Earlier) (r : Role) → fault b e m r ≡ None → is_nonlocal r ≡ true → b ≡ true
by_role true m e r is declared = refl
by_role false m e Nonlocal is declared = absurd (cc)
by_role false m e Read is declared = never declared
by_role false m e Bind is declared = never declared
by_role false m e Parameter is declared = never declared
by_role false m e Global is declared = never declared
by_role false m e Misplaced is declared = never declared

module _ (ss : Stms) where
  abbrev g : Places
  g = places_script ss

  abbrev rs : List Region
  rs = g.regions

  offered_one : (before : List Mention) (m : Mention) (h : ℕ) (x : Name) → fault_at rs (facts g.mentions) before m ≡ None
      → (b c d : Bool) → (m.region == h) ≡ b → bytes_eq m.name x ≡ c → is_nonlocal m.role ≡ d → ((b && c) && d) ≡ true
      → is_offered rs (facts g.mentions x) h ≡ true
  offered_one before m h x is true true true r n d all =
      let there = by_role (is_offered rs (facts g.mentions m.name) m.region) m (earlier rs (facts g.mentions) before m.name m.region) m.role is d in
      subst (λ y. is_offered rs (facts g.mentions y) h ≡ true) ((bytes_eq-Decides m.name x).0 n)
      (subst (λ q. is_offered rs (facts g.mentions m.name) q ≡ true) (eqb-true m.region h r) there)
  offered_one before m h x is false c d r n e all = never all
  offered_one before m h x is true false d r n e all = never all
  offered_one before m h x is true true false r n e all = never all

  offered : (before ms : List Mention) (h : ℕ) (x : Name) → first_fault rs (facts g.mentions) before ms ≡ None
      → list_any (λ m. is_of h x m && is_nonlocal m.role) ms ≡ true → is_offered rs (facts g.mentions x) h ≡ true
  offered before [] h x is any = never any
  offered before (m ∷ ms) h x is any =
      let none = or_none (fault_at rs (facts g.mentions) before m) (first_fault rs (facts g.mentions) (before ++ m ∷ []) ms) is in
      by (is_of h x m && is_nonlocal m.role) refl any none.0 (λ there. offered (before ++ m ∷ []) ms h x none.1 there)
    where
      by : (b : Bool) → (is_of h x m && is_nonlocal m.role) ≡ b → (b || list_any (λ m. is_of h x m && is_nonlocal m.role) ms) ≡ true
          → fault_at rs (facts g.mentions) before m ≡ None
          → (list_any (λ m. is_of h x m && is_nonlocal m.role) ms ≡ true → is_offered rs (facts g.mentions x) h ≡ true) → is_offered rs (facts g.mentions x) h ≡ true
      by true e i sound rest = offered_one before m h x sound (m.region == h) (bytes_eq m.name x) (is_nonlocal m.role) refl refl refl e
      by false e i sound rest = rest i

  -- a region that is no module stands in an earlier one

  earlier_around : (r : ℕ) (here : Region) → slice_get rs r ≡ Some here → (here.kind ≡ kind.Module → ⊥) → here.around < r
  earlier_around zero here at other =
      absurd (other (sym (ap (λ (o : Option Region). elim o [ None ↦ kind.Module | Some x ↦ x.kind ]) (let same : Some module_region ≡ Some here = at in same))))
  earlier_around (suc i) here at other = (stands_earlier ss i here at).0

  module _ (look : ℕ → Facts) (q : ℕ) where
    -- a verdict hands on to the region around, or not
    handed : (t : Facts) (here : Region) (k : Kind) (r : ℕ) (f : ℕ → Option ℕ) → settled (verdict t here k) r f ≡ Some q
        → (r ≡ q) ⊎ ((k ≡ kind.Module → ⊥) × (f here.around ≡ Some q))
    handed t here kind.Module r f is = nothing_is q is
    handed t here kind.Class r f is = inr (λ m. let same : kind.Class ≡ kind.Module = m in absurd cc, is)
    handed t here kind.Function r f is = by (owns t) t.global is
      where
        by : (b c : Bool) → settled (if b then Own else if c then Nobody else Outwards here.around) r f ≡ Some q
            → (r ≡ q) ⊎ ((kind.Function ≡ kind.Module → ⊥) × (f here.around ≡ Some q))
        by true c i = inl (let same : Some r ≡ Some q = i in cc)
        by false true i = nothing_is q i
        by false false i = inr (λ m. let same : kind.Function ≡ kind.Module = m in absurd cc, i)
    handed t here kind.Comprehension r f is = by (owns t) is
      where
        by : (b : Bool) → settled (if b then Own else Outwards here.around) r f ≡ Some q
            → (r ≡ q) ⊎ ((kind.Comprehension ≡ kind.Module → ⊥) × (f here.around ≡ Some q))
        by true i = inl (let same : Some r ≡ Some q = i in cc)
        by false i = inr (λ m. let same : kind.Comprehension ≡ kind.Module = m in absurd cc, i)

    -- the owner is the region or an earlier one
    up_to : (n r : ℕ) (o : Option Region) → slice_get rs r ≡ o → settled (verdict_at (look r) o) r (λ p. owner n rs look p) ≡ Some q
        → ((p : ℕ) → owner n rs look p ≡ Some q → q ≤ p) → q ≤ r
    up_to n r None at is rest = nothing_is q is
    up_to n r (Some here) at is rest = by (handed (look r) here here.kind r (λ p. owner n rs look p) is)
      where
        by : (r ≡ q) ⊎ ((here.kind ≡ kind.Module → ⊥) × (owner n rs look here.around ≡ Some q)) → q ≤ r
        by (inl same) = omega (arith, same)
        by (inr next) =
            let le = rest here.around next.1 in
            let lt = earlier_around r here at next.0 in
            omega (arith, le, lt)

    not_later : (n r : ℕ) → owner n rs look r ≡ Some q → q ≤ r
    not_later zero r is = nothing_is q is
    not_later (suc n) r is = up_to n r (slice_get rs r) refl is (λ p there. not_later n p there)

    -- so many steps as there are regions up to it are enough
    enough_at : (n r : ℕ) (o : Option Region) → slice_get rs r ≡ o → settled (verdict_at (look r) o) r (λ p. owner n rs look p) ≡ Some q
        → ((p : ℕ) → owner n rs look p ≡ Some q → owner (suc p) rs look p ≡ Some q)
        → settled (verdict_at (look r) o) r (λ p. owner r rs look p) ≡ Some q
    enough_at n r None at is rest = nothing_is q is
    enough_at n r (Some here) at is rest =
        same_verdict (look r) here.kind is
        (λ other there. owner_more rs look q (suc here.around) r here.around (earlier_around r here at other) (rest here.around there))
      where
        same_verdict : (t : Facts) (k : Kind) → settled (verdict t here k) r (λ p. owner n rs look p) ≡ Some q
            → ((k ≡ kind.Module → ⊥) → owner n rs look here.around ≡ Some q → owner r rs look here.around ≡ Some q)
            → settled (verdict t here k) r (λ p. owner r rs look p) ≡ Some q
        same_verdict t kind.Module i le = nothing_is q i
        same_verdict t kind.Class i le = le (λ m. let same : kind.Class ≡ kind.Module = m in absurd cc) i
        same_verdict t kind.Function i le = by (owns t) t.global i
          where
            by : (b c : Bool) → settled (if b then Own else if c then Nobody else Outwards here.around) r (λ p. owner n rs look p) ≡ Some q
                → settled (if b then Own else if c then Nobody else Outwards here.around) r (λ p. owner r rs look p) ≡ Some q
            by true c j = j
            by false true j = nothing_is q j
            by false false j = le (λ m. let same : kind.Function ≡ kind.Module = m in absurd cc) j
        same_verdict t kind.Comprehension i le = by (owns t) i
          where
            by : (b : Bool) → settled (if b then Own else Outwards here.around) r (λ p. owner n rs look p) ≡ Some q
                → settled (if b then Own else Outwards here.around) r (λ p. owner r rs look p) ≡ Some q
            by true j = j
            by false j = le (λ m. let same : kind.Comprehension ≡ kind.Module = m in absurd cc) j

    enough : (n r : ℕ) → owner n rs look r ≡ Some q → owner (suc r) rs look r ≡ Some q
    enough zero r is = nothing_is q is
    enough (suc n) r is = enough_at n r (slice_get rs r) refl is (λ p there. enough n p there)

  -- the owner of a free name of the block is found from the block, and lies behind it

  not_module : (look : ℕ → Facts) (q h : ℕ) (here : Region) → slice_get rs h ≡ Some here → owner_from rs look here.around ≡ Some q → here.kind ≡ kind.Module → ⊥
  not_module look q zero here at is m =
      let around : here.around ≡ 0 = sym (ap (λ (o : Option Region). elim o [ None ↦ 0 | Some x ↦ x.around ]) (let same : Some module_region ≡ Some here = at in same)) in
      let none : None ≡ Some q = subst (λ a. owner_from rs look a ≡ Some q) around is in
      nothing_is q none
  not_module look q (suc i) here at is m = (stands_earlier ss i here at).1 m

  outwards_verdict : (t : Facts) (here : Region) (k : Kind) → (k ≡ kind.Module → ⊥) → owns t ≡ false → t.global ≡ false → verdict t here k ≡ Outwards here.around
  outwards_verdict t here kind.Module other none not_global = absurd (other refl)
  outwards_verdict t here kind.Class other none not_global = refl
  outwards_verdict t here kind.Function other none not_global =
      ap (λ (b : Bool). if b then Own else if t.global then Nobody else Outwards here.around) none
      ∙ ap (λ (b : Bool). if b then Nobody else Outwards here.around) not_global
  outwards_verdict t here kind.Comprehension other none not_global = ap (λ (b : Bool). if b then Own else Outwards here.around) none

  among_first : (n h q : ℕ) → 0 < n → (h == q) ≡ false → is_among (before n rs q h) h ≡ true
  among_first zero h q some other = absurd (omega (arith, some))
  among_first (suc n) h q some other =
      let rest : List ℕ = h ∷ further (outside (slice_get rs h)) (λ p. before n rs q p) in
      subst (λ (b : Bool). is_among (if b then [] else rest) h ≡ true) (sym other)
      (or_left (h == h) (is_among (further (outside (slice_get rs h)) (λ p. before n rs q p)) h) (eq-eqb h h refl))

  not_class : (c : Bool) (o : Option ℕ) → (if c && false then None else o) ≡ o
  not_class true o = refl
  not_class false o = refl

  neither : (b c : Bool) → b ≡ false → c ≡ false → (b || c) ≡ false
  neither true c is h = is
  neither false c is h = h

  unequal : (h q a : ℕ) → q ≤ a → a < h → (h == q) ≡ false
  unequal h q a le lt = by (h == q) refl
    where
      by : (b : Bool) → (h == q) ≡ b → b ≡ false
      by true e = let same = eqb-true h q e in absurd (omega (arith, le, lt, same))
      by false e = refl

  own_between : (x : Name) (h q : ℕ) (here : Region) → slice_get rs h ≡ Some here → owns (facts g.mentions x h) ≡ false → (facts g.mentions x h).global ≡ false
      → owner_from rs (facts g.mentions x) here.around ≡ Some q → is_between rs h (meant rs (facts g.mentions x) h) h ≡ true
  own_between x h q here at none not_global is =
      let look = facts g.mentions x in
      let other = not_module look q h here at is in
      let lt = earlier_around h here at other in
      let near : owner h rs look here.around ≡ Some q = owner_more rs look q (suc here.around) h here.around lt (enough look q (length rs) here.around is) in
      let step : owner (suc h) rs look h ≡ Some q =
      ap (λ o. settled (verdict_at (look h) o) h (λ p. owner h rs look p)) at
      ∙ ap (λ v. settled v h (λ p. owner h rs look p)) (outwards_verdict (look h) here here.kind other none not_global) ∙ near in
      let inside : h < length rs = within rs h here at in
      let found : owner_from rs look h ≡ Some q = owner_more rs look q (suc h) (length rs) h inside step in
      let means : meant rs look h ≡ Some q =
      ap (meant_at rs look h) at
      ∙ ap (λ b. if is_class here.kind && b then None else owner_from rs look h) (neither (owns (look h)) (look h).global none not_global)
      ∙ not_class (is_class here.kind) (owner_from rs look h) ∙ found in
      let le = not_later look q (length rs) here.around is in
      subst (λ o. is_between rs h o h ≡ true) (sym means)
      (among_first (length rs) h q (omega (arith, inside)) (unequal h q here.around le lt))

  offered_owner : fault_of g ≡ None → (x : Name) (h : ℕ) (here : Region) → slice_get rs h ≡ Some here
      → ((facts g.mentions x h).nonlocal ≡ true) ⊎ (is_some (owner_from rs (facts g.mentions x) here.around) ≡ true)
      → is_some (owner_from rs (facts g.mentions x) here.around) ≡ true
  offered_owner none x h here at (inl declared) =
      subst (λ o. is_some (owner_from rs (facts g.mentions x) (around_at h o)) ≡ true) at (offered [] g.mentions h x none declared)
  offered_owner none x h here at (inr found) = found

  of_block : fault_of g ≡ None → (x : Name) (h : ℕ) (here : Region) → slice_get rs h ≡ Some here
      → IsOutwards (facts g.mentions x h) (owner_from rs (facts g.mentions x) here.around) → is_between rs h (meant rs (facts g.mentions x) h) h ≡ true
  of_block none x h here at f = by (owner_from rs (facts g.mentions x) here.around) refl (offered_owner none x h here at f.found)
    where
      by : (o : Option ℕ) → owner_from rs (facts g.mentions x) here.around ≡ o → is_some o ≡ true → is_between rs h (meant rs (facts g.mentions x) h) h ≡ true
      by None e there = never there
      by (Some q) e there = own_between x h q here at f.not_own f.not_global e

  by_scope : fault_of g ≡ None → (x : Name) (h : ℕ) (o : Option Region) → slice_get rs h ≡ o
      → scope_or_global (scope_in rs (facts g.mentions) (is_captured rs (facts g.mentions) g.mentions) h x o) ≡ T.free
      → is_between rs h (meant rs (facts g.mentions x) h) h ≡ true
  by_scope none x h None at free = absurd (let same : T.global ≡ T.free = free in cc)
  by_scope none x h (Some here) at free =
      of_block none x h here at
      (is_outwards (facts g.mentions x h) (is_captured rs (facts g.mentions) g.mentions h x) here.kind (owner_from rs (facts g.mentions x) here.around) free)

  pub own_free : fault_of g ≡ None → (b h : ℕ) → slice_get g.blocks b ≡ Some h → (m : Mention) → m.region ≡ h → (own g b m.name).scope ≡ T.free
      → is_free_at g h m ≡ true
  own_free none b h at m here free =
      let there = by_scope none m.name h (slice_get rs h) refl
      (sym (ap (λ o. scope_or_global (scope_at rs (facts g.mentions) (is_captured rs (facts g.mentions) g.mentions) m.name o)) at) ∙ free) in
      subst (λ r. is_between rs h (meant rs (facts g.mentions m.name) r) r ≡ true) (sym here) there

pub named_is_free : NamedIsFree
named_is_free ss b h none at =
    let g = places_script ss in
    weaken (λ (m : Mention). is_free_at g h m ≡ true → Among (free_names g (functions_of (naming_script ss)) h) m.name)
    (λ m. home_of g.regions m.region ≡ h → (named_at g b h m).scope ≡ T.free → Among (free_names g (functions_of (naming_script ss)) h) m.name)
    (λ m f home free. f (named_free m home free)) g.mentions (free_is_among ss h)
  where
    named_free : (m : Mention) → home_of (places_script ss).regions m.region ≡ h → (named_at (places_script ss) b h m).scope ≡ T.free
        → is_free_at (places_script ss) h m ≡ true
    named_free m home free = by (m.region == h) refl free
      where
        by : (c : Bool) → (m.region == h) ≡ c → (if c then own (places_script ss) b m.name else seen (places_script ss) m.region m.name).scope ≡ T.free
            → is_free_at (places_script ss) h m ≡ true
        by true e f = own_free ss none b h at m (eqb-true m.region h e) f
        by false e f = between ss h m (slice_get (places_script ss).regions m.region) refl home e f
