-- No region of the module stands in a class, and no name of a script is passed on by the module.
use Rattle.std.proofs.Common.{◌≡◌, ℕ, zero, suc, ◌+◌, Bool, true, false, if◌then◌else◌, cond, List, [], ◌∷◌, ◌++◌, map, filter, length, Option, Some, None, refl, sym, ap, ◌∙◌, subst, eq-eqb, eqb-true}
use Rattle.std.specs.Prelude.{◌==◌, ◌&&◌, ◌||◌, slice_get}
use Rattle.pt_scopes.specs.declared.region.Facts.{Facts}
use Rattle.pt_scopes.specs.declared.region.Kind.{Kind}
use Rattle.pt_scopes.specs.declared.region.Kind.TheVariants as kind
use Rattle.pt_scopes.specs.declared.region.Mention.{Mention}
use Rattle.pt_scopes.specs.declared.region.Region.{Region}
use Rattle.pt_scopes.specs.declared.region.Verdict.TheVariants.{Own, Nobody, Outwards}
use Rattle.pt_scopes.specs.Mentions.{places_script}
use Rattle.pt_scopes.specs.Places.{Places}
use Rattle.pt_scopes.specs.Scope.{facts, home_of, is_class, meant, meant_at, owner, owner_from, owns, settled, verdict, verdict_at}
use Rattle.pt_tree.specs.Syntax.{Name, Stms}
use Rattle.sem_names.specs.Around.{names_of}
use Rattle.sem_names.specs.BlockNames.{class_if, distinct, has_class, is_up_to, read_free}
use Rattle.sem_names.specs.Naming.{is_between, is_free_at}
use Rattle.sem_names.specs.Regions.{around_in, before, class_around, class_at, class_of, class_or, further, is_among, left_behind, outside}
use Rattle.sem_names.specs.Script.{functions_of, naming_script}
use Rattle.law_names.proofs.module_names.Homes.{OfKind, HasHome, regions_have_homes}
use Rattle.law_names.proofs.module_names.Variables.{module_region, not_a_block}

nothing : {A X : Type 0} (x : A) → None ≡ Some x → X
nothing x e = absurd (let same : None ≡ Some x = e in cc)

never : {X : Type 0} → false ≡ true → X
never e = absurd (let same : false ≡ true = e in cc)

apart : {X : Type 0} (r q : ℕ) → (r == q) ≡ false → Some r ≡ Some q → X
apart r q differ e = let same : r ≡ q = (let there : Some r ≡ Some q = e in cc) in never (sym differ ∙ eq-eqb r q same)

not_true : (b : Bool) → (b ≡ true → ⊥) → b ≡ false
not_true true h = absurd (h refl)
not_true false h = refl

module _ (rs : List Region) (homes : (i : ℕ) (r : Region) → slice_get rs i ≡ Some r
    → HasHome rs i r) (first : slice_get rs 0 ≡ Some module_region) where
  -- from a region of the module on there is no class

  class_by : (k : Kind) (r q : ℕ) (here : Region) (f : ℕ → Option ℕ) → here.kind ≡ k → slice_get rs r ≡ Some here
      → class_or r here.around k f ≡ Some q
      → (home_of rs here.around ≡ 0 → f here.around ≡ Some q → ⊥) → home_of rs r ≡ 0 → ⊥
  class_by kind.Module r q here f e at is rest at_home = nothing q is
  class_by kind.Function r q here f e at is rest at_home =
      not_a_block rs homes first r here at (λ m. let same : kind.Module ≡ kind.Function = sym m ∙ e in absurd cc)
      (subst (λ k. OfKind rs r here k) e (homes r here at)) at_home
  class_by kind.Class r q here f e at is rest at_home =
      not_a_block rs homes first r here at (λ m. let same : kind.Module ≡ kind.Class = sym m ∙ e in absurd cc)
      (subst (λ k. OfKind rs r here k) e (homes r here at)) at_home
  class_by kind.Comprehension r q here f e at is rest at_home =
      let around : home_of rs here.around ≡ here.home = subst (λ k. OfKind rs r here k) e (homes r here at) in
      let zero_home : here.home ≡ 0 = sym (ap (λ (o : Option Region). elim o [ None ↦ r | Some x ↦ x.home ]) at) ∙ at_home in
      rest (around ∙ zero_home) is

  class_in : (o : Option Region) (r q : ℕ) (f : ℕ → Option ℕ) → slice_get rs r ≡ o → class_at r o f ≡ Some q
      → ((p : ℕ) → home_of rs p ≡ 0 → f p ≡ Some q → ⊥) → home_of rs r ≡ 0 → ⊥
  class_in None r q f at is rest at_home = nothing q is
  class_in (Some here) r q f at is rest at_home = class_by here.kind r q here f refl at is (rest here.around) at_home

  no_class : (n r q : ℕ) → home_of rs r ≡ 0 → class_around n rs r ≡ Some q → ⊥
  no_class zero r q at_home is = nothing q is
  no_class (suc n) r q at_home is = class_in (slice_get rs r) r q (λ p. class_around n rs p) refl is (λ p e i. no_class n p q e i) at_home

  -- a class is a class

  abbrev IsClassAt : ℕ → Option Region → Type 0
  IsClassAt q None = ⊥
  IsClassAt q (Some here) = here.kind ≡ kind.Class

  class_found : (k : Kind) (r q : ℕ) (here : Region) (f : ℕ → Option ℕ) → here.kind ≡ k → slice_get rs r ≡ Some here
      → class_or r here.around k f ≡ Some q
      → ((p : ℕ) → f p ≡ Some q → IsClassAt q (slice_get rs q)) → IsClassAt q (slice_get rs q)
  class_found kind.Module r q here f e at is rest = nothing q is
  class_found kind.Function r q here f e at is rest = rest here.around is
  class_found kind.Comprehension r q here f e at is rest = rest here.around is
  class_found kind.Class r q here f e at is rest =
      let same : r ≡ q = (let there : Some r ≡ Some q = is in cc) in
      subst (λ p. IsClassAt p (slice_get rs p)) same (subst (IsClassAt r) (sym at) e)

  class_there : (o : Option Region) (r q : ℕ) (f : ℕ → Option ℕ) → slice_get rs r ≡ o → class_at r o f ≡ Some q
      → ((p : ℕ) → f p ≡ Some q → IsClassAt q (slice_get rs q)) → IsClassAt q (slice_get rs q)
  class_there None r q f at is rest = nothing q is
  class_there (Some here) r q f at is rest = class_found here.kind r q here f refl at is rest

  is_class_at : (n r q : ℕ) → class_around n rs r ≡ Some q → IsClassAt q (slice_get rs q)
  is_class_at zero r q is = nothing q is
  is_class_at (suc n) r q is = class_there (slice_get rs r) r q (λ p. class_around n rs p) refl is (λ p i. is_class_at n p q i)

  module _ (h : ℕ) (here : Region) (at_h : slice_get rs h ≡ Some here) (other : here.kind ≡ kind.Class
      → ⊥) (around : home_of rs here.around ≡ 0) where
    -- where the block is passed on the way to a class, its surroundings stand in that class

    at_block : (k : Kind) (n q : ℕ) → here.kind ≡ k → class_or h here.around k (λ p. class_around n rs p) ≡ Some q → ⊥
    at_block kind.Module n q e is = nothing q is
    at_block kind.Function n q e is = no_class n here.around q around is
    at_block kind.Comprehension n q e is = no_class n here.around q around is
    at_block kind.Class n q e is = other e

    go_on : (k : Kind) (r q : ℕ) (there : Region) (n : ℕ) → there.kind ≡ k → (r == q) ≡ false
        → is_among (further (around_in there.around k) (λ p. before n rs q p)) h ≡ true → class_or r there.around k (λ p. class_around n rs p) ≡ Some
        q
        → ((p : ℕ) → is_among (before n rs q p) h ≡ true → class_around n rs p ≡ Some q → ⊥) → ⊥
    go_on kind.Module r q there n e apart_is inside is rest = nothing q is
    go_on kind.Function r q there n e apart_is inside is rest = rest there.around inside is
    go_on kind.Comprehension r q there n e apart_is inside is rest = rest there.around inside is
    go_on kind.Class r q there n e apart_is inside is rest = apart r q apart_is is

    go_in : (o : Option Region) (r q n : ℕ) → (r == q) ≡ false → is_among (further (outside o) (λ p. before n rs q p)) h ≡ true
        → class_at r o (λ p. class_around n rs p) ≡ Some q → ((p : ℕ) → is_among (before n rs q p) h ≡ true → class_around n rs p ≡ Some q → ⊥) → ⊥
    go_in None r q n apart_is inside is rest = nothing q is
    go_in (Some there) r q n apart_is inside is rest = go_on there.kind r q there n refl apart_is inside is rest

    at_region : (b : Bool) (r q n : ℕ) → (r == h) ≡ b → (r == q) ≡ false
        → (b || is_among (further (outside (slice_get rs r)) (λ p. before n rs q p)) h) ≡ true → class_around (suc n) rs r ≡ Some q
        → ((p : ℕ) → is_among (before n rs q p) h ≡ true → class_around n rs p ≡ Some q → ⊥) → ⊥
    at_region true r q n same apart_is inside is rest =
        let at : r ≡ h = eqb-true r h same in
        let there : class_at h (slice_get rs h) (λ p. class_around n rs p) ≡ Some q = subst (λ j. class_around (suc n) rs j ≡ Some q) at is in
        at_block here.kind n q refl (subst (λ (o : Option Region). class_at h o (λ p. class_around n rs p) ≡ Some q) at_h there)
    at_region false r q n same apart_is inside is rest = go_in (slice_get rs r) r q n apart_is inside is rest

    at_end : (b : Bool) (r q n : ℕ) → (r == q) ≡ b
        → is_among (if b then [] else r ∷ further (outside (slice_get rs r)) (λ p. before n rs q p)) h ≡ true → class_around (suc n) rs r ≡ Some q
        → ((p : ℕ) → is_among (before n rs q p) h ≡ true → class_around n rs p ≡ Some q → ⊥) → ⊥
    at_end true r q n same inside is rest = never inside
    at_end false r q n same inside is rest = at_region (r == h) r q n refl same inside is rest

    passes : (n r q : ℕ) → is_among (before n rs q r) h ≡ true → class_around n rs r ≡ Some q → ⊥
    passes zero r q inside is = never inside
    passes (suc n) r q inside is = at_end (r == q) r q n refl inside is (λ p i j. passes n p q i j)

    not_up_to : (f : ℕ) (o : Option ℕ) → class_of rs f ≡ o → is_up_to rs h o f ≡ false
    not_up_to f None is = refl
    not_up_to f (Some q) is =
        ap (λ (b : Bool). b || is_among (left_behind rs q f) h)
        (not_true (q == h) (λ e. let same : q ≡ h = eqb-true q h e in
        other (subst (IsClassAt h) at_h (subst (λ p. IsClassAt p (slice_get rs p)) same (is_class_at (length rs) f q is)))))
        ∙ not_true (is_among (left_behind rs q f) h) (λ e. passes (length rs) f q e is)

    pub none_has : (fs : List ℕ) → has_class rs fs h ≡ false
    none_has [] = refl
    none_has (f ∷ fs) = ap (λ (b : Bool). b || has_class rs fs h) (not_up_to f (class_of rs f) refl) ∙ none_has fs

  -- no name is found further outwards than the module

  module _ (look : ℕ → Facts) where
    own_on : (b : Bool) (a r q : ℕ) (f : ℕ → Option ℕ) → (r == q) ≡ false → settled (if b then Own else Outwards a) r f ≡ Some q → (f a ≡ Some q → ⊥)
        → ⊥
    own_on true a r q f apart_is is rest = apart r q apart_is is
    own_on false a r q f apart_is is rest = rest is

    function_on : (b c : Bool) (a r q : ℕ) (f : ℕ → Option ℕ) → (r == q) ≡ false
        → settled (if b then Own else if c then Nobody else Outwards a) r f ≡ Some q
        → (f a ≡ Some q → ⊥) → ⊥
    function_on true c a r q f apart_is is rest = apart r q apart_is is
    function_on false true a r q f apart_is is rest = nothing q is
    function_on false false a r q f apart_is is rest = rest is

    owner_on : (k : Kind) (r q : ℕ) (there : Region) (n : ℕ) → (r == q) ≡ false
        → is_among (further (around_in there.around k) (λ p. before n rs q p)) 0 ≡ true
        → settled (verdict (look r) there k) r (λ p. owner n rs look p) ≡ Some q
        → ((p : ℕ) → is_among (before n rs q p) 0 ≡ true → owner n rs look p ≡ Some q → ⊥) → ⊥
    owner_on kind.Module r q there n apart_is inside is rest = nothing q is
    owner_on kind.Function r q there n apart_is inside is rest =
        function_on (owns (look r)) (look r).global there.around r q (λ p. owner n rs look p) apart_is is (rest there.around inside)
    owner_on kind.Class r q there n apart_is inside is rest = rest there.around inside is
    owner_on kind.Comprehension r q there n apart_is inside is rest =
        own_on (owns (look r)) there.around r q (λ p. owner n rs look p) apart_is is (rest there.around inside)

    owner_in : (o : Option Region) (r q n : ℕ) → (r == q) ≡ false → is_among (further (outside o) (λ p. before n rs q p)) 0 ≡ true
        → settled (verdict_at (look r) o) r (λ p. owner n rs look p) ≡ Some q
        → ((p : ℕ) → is_among (before n rs q p) 0 ≡ true → owner n rs look p ≡ Some q → ⊥) → ⊥
    owner_in None r q n apart_is inside is rest = nothing q is
    owner_in (Some there) r q n apart_is inside is rest = owner_on there.kind r q there n apart_is inside is rest

    owner_at : (b : Bool) (r q n : ℕ) → (r == 0) ≡ b → (r == q) ≡ false
        → (b || is_among (further (outside (slice_get rs r)) (λ p. before n rs q p)) 0) ≡ true → owner (suc n) rs look r ≡ Some q
        → ((p : ℕ) → is_among (before n rs q p) 0 ≡ true → owner n rs look p ≡ Some q → ⊥) → ⊥
    owner_at true r q n same apart_is inside is rest =
        let at : r ≡ 0 = eqb-true r 0 same in
        let there : settled (verdict_at (look 0) (slice_get rs 0)) 0 (λ p. owner n rs look p) ≡ Some q = subst (λ j. owner (suc n) rs look j ≡ Some q)
        at is in
        nothing q (subst (λ (o : Option Region). settled (verdict_at (look 0) o) 0 (λ p. owner n rs look p) ≡ Some q) first there)
    owner_at false r q n same apart_is inside is rest = owner_in (slice_get rs r) r q n apart_is inside is rest

    owner_end : (b : Bool) (r q n : ℕ) → (r == q) ≡ b
        → is_among (if b then [] else r ∷ further (outside (slice_get rs r)) (λ p. before n rs q p)) 0 ≡ true → owner (suc n) rs look r ≡ Some q
        → ((p : ℕ) → is_among (before n rs q p) 0 ≡ true → owner n rs look p ≡ Some q → ⊥) → ⊥
    owner_end true r q n same inside is rest = never inside
    owner_end false r q n same inside is rest = owner_at (r == 0) r q n refl same inside is rest

    owner_passes : (n r q : ℕ) → is_among (before n rs q r) 0 ≡ true → owner n rs look r ≡ Some q → ⊥
    owner_passes zero r q inside is = never inside
    owner_passes (suc n) r q inside is = owner_end (r == q) r q n refl inside is (λ p i j. owner_passes n p q i j)

unless : (b : Bool) (o : Option ℕ) (q : ℕ) → (if b then None else o) ≡ Some q → o ≡ Some q
unless true o q is = nothing q is
unless false o q is = is

seen_too : (rs : List Region) (look : ℕ → Facts) (r q : ℕ) (o : Option Region) → meant_at rs look r o ≡ Some q → owner_from rs look r ≡ Some q
seen_too rs look r q None is = nothing q is
seen_too rs look r q (Some here) is = unless (is_class here.kind && (owns (look r) || (look r).global)) (owner_from rs look r) q is

none_left : (p : Mention → Bool) (ms : List Mention) → ((m : Mention) → p m ≡ false) → filter p ms ≡ []
none_left p [] f = refl
none_left p (m ∷ ms) f = ap (λ (b : Bool). cond b (m ∷ filter p ms) (filter p ms)) (f m) ∙ none_left p ms f

module _ (ss : Stms) where
  abbrev g : Places
  g = places_script ss

  not_between : (r : ℕ) (x : Name) (o : Option ℕ) → meant g.regions (facts g.mentions x) r ≡ o → is_between g.regions 0 o r ≡ false
  not_between r x None is = refl
  not_between r x (Some q) is =
      not_true (is_among (left_behind g.regions q r) 0)
      (λ e. owner_passes g.regions (regions_have_homes ss) refl (facts g.mentions x) (length g.regions) r q e
      (seen_too g.regions (facts g.mentions x) r q (slice_get g.regions r) is))

  not_free_at : (m : Mention) → is_free_at g 0 m ≡ false
  not_free_at m = not_between m.region m.name (meant g.regions (facts g.mentions m.name) m.region) refl

  none_read : read_free g 0 ≡ []
  none_read = ap (λ (ms : List Mention). distinct (map (λ m. m.name) ms)) (none_left (is_free_at g 0) g.mentions not_free_at)

  none_of_class : (fs : List ℕ) → has_class g.regions fs 0 ≡ false
  none_of_class fs =
      none_has g.regions (regions_have_homes ss) refl 0 module_region refl (λ e. let same : kind.Module ≡ kind.Class = e in absurd cc) refl fs

pub module_has_no_frees : (ss : Stms) → (names_of ss 0).frees ≡ []
module_has_no_frees ss =
    ap (λ l. l ++ class_if (has_class (places_script ss).regions (functions_of (naming_script ss)) 0)) (none_read ss)
    ∙ ap (λ (b : Bool). [] ++ class_if b) (none_of_class ss (functions_of (naming_script ss)))
