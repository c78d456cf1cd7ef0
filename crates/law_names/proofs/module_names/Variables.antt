-- No name of the module is free: what is seen from the module and from its comprehensions is of these or global.
use Rattle.std.proofs.Common.{◌≡◌, ℕ, zero, suc, ◌+◌, Bool, true, false, if◌then◌else◌, List, [], ◌∷◌, ◌++◌, length, Option, Some, None, refl, sym, ap, ◌∙◌, subst, arith, eq-eqb, eqb-true, bytes_eq}
use Rattle.std.specs.Prelude.{◌==◌, ◌&&◌, ◌||◌, slice_get, is_some}
use Rattle.std.specs.Option.{unwrap_or}
use Rattle.std.specs.List.{list_any}
use Rattle.pt_scopes.specs.declared.region.Earlier.{Earlier}
use Rattle.pt_scopes.specs.declared.region.Facts.{Facts}
use Rattle.pt_scopes.specs.declared.region.Kind.{Kind}
use Rattle.pt_scopes.specs.declared.region.Kind.TheVariants as kind
use Rattle.pt_scopes.specs.declared.region.Mention.{Mention}
use Rattle.pt_scopes.specs.declared.region.Region.{Region}
use Rattle.pt_scopes.specs.declared.region.Role.{Role}
use Rattle.pt_scopes.specs.declared.region.Role.TheVariants.{Read, Bind, Parameter, Global, Nonlocal, Misplaced}
use Rattle.pt_scopes.specs.declared.scope.Scope.TheVariants as scope
use Rattle.pt_scopes.specs.declared.scope.ScopeErr.{ScopeErr}
use Rattle.pt_scopes.specs.declared.region.Verdict.TheVariants.{Own, Outwards}
use Rattle.pt_scopes.specs.Mentions.{places_script}
use Rattle.pt_scopes.specs.Places.{Places}
use Rattle.pt_scopes.specs.Refusals.{fault, fault_at, first_fault, fault_of, or_else, earlier, around_at}
use Rattle.pt_scopes.specs.Scope.{bound_scope, facts, home_of, is_captured as is_captured_in, is_nonlocal, is_of, owner, owner_from, owns, settled, unbound_scope, verdict, verdict_at}
use Rattle.pt_tree.specs.Syntax.{Name, Stms}
use Rattle.sem_control.specs.control.Turn as T
use Rattle.sem_control.specs.control.Turn.{Variable}
use Rattle.sem_names.specs.Around.{around_of}
use Rattle.sem_names.specs.Naming.{as_control, cell_or_local, is_captured, of_owner, own, owned, seen, variable, variable_in}
use Rattle.sem_names.specs.Regions.{is_number, numbered, numbered_behind}
use Rattle.sem_names.specs.Script.{naming_script, spelled_in}
use Rattle.law_names.proofs.module_names.Homes.{OfKind, HasHome, regions_have_homes}

nothing : {A X : Type 0} (x : A) → None ≡ Some x → X
nothing x e = absurd (let same : None ≡ Some x = e in cc)

abbrev pub module_region : Region
module_region = record { kind = kind.Module; around = 0; home = 0 }

abbrev IsFree : Variable → Type 0
IsFree v = v.scope ≡ T.free

module _ (rs : List Region) (homes : (i : ℕ) (r : Region) → slice_get rs i ≡ Some r
    → HasHome rs i r) (first : slice_get rs 0 ≡ Some module_region) where
  -- the owner of a name, seen from a region of the module, is one too

  pub not_a_block : {X : Type 0} (r : ℕ) (here : Region) → slice_get rs r ≡ Some here → (here.kind ≡ kind.Module → ⊥) → here.home ≡ r
      → home_of rs r ≡ 0 → X
  not_a_block r here at other home at_home =
      let zero_home : here.home ≡ 0 = sym (ap (λ (o : Option Region). elim o [ None ↦ r | Some x ↦ x.home ]) at) ∙ at_home in
      let is_first : r ≡ 0 = sym home ∙ zero_home in
      let same : Some here ≡ Some module_region = sym at ∙ ap (slice_get rs) is_first ∙ first in
      absurd (other (ap (λ (o : Option Region). elim o [ None ↦ kind.Module | Some x ↦ x.kind ]) same))

  own_or_around : (b : Bool) (a r q : ℕ) (f : ℕ → Option ℕ) → settled (if b then Own else Outwards a) r f ≡ Some q → (f a ≡ Some q → home_of rs q ≡ 0)
      → home_of rs r ≡ 0 → home_of rs q ≡ 0
  own_or_around true a r q f is rest at_home =
      subst (λ p. home_of rs p ≡ 0) (let same : r ≡ q = (let there : Some r ≡ Some q = is in cc) in same) at_home
  own_or_around false a r q f is rest at_home = rest is

  by_kind : (k : Kind) (r q : ℕ) (here : Region) (f : ℕ → Option ℕ) (g : Facts) → here.kind ≡ k → slice_get rs r ≡ Some here
      → settled (verdict g here k) r f ≡ Some q → (home_of rs here.around ≡ 0 → f here.around ≡ Some q → home_of rs q ≡ 0)
      → home_of rs r ≡ 0 → home_of rs q ≡ 0
  by_kind kind.Module r q here f g e at is rest at_home = nothing q is
  by_kind kind.Function r q here f g e at is rest at_home =
      not_a_block r here at (λ m. let same : kind.Module ≡ kind.Function = sym m ∙ e in absurd cc)
      (subst (λ k. OfKind rs r here k) e (homes r here at)) at_home
  by_kind kind.Class r q here f g e at is rest at_home =
      not_a_block r here at (λ m. let same : kind.Module ≡ kind.Class = sym m ∙ e in absurd cc)
      (subst (λ k. OfKind rs r here k) e (homes r here at)) at_home
  by_kind kind.Comprehension r q here f g e at is rest at_home =
      let around : home_of rs here.around ≡ here.home = subst (λ k. OfKind rs r here k) e (homes r here at) in
      let zero_home : here.home ≡ 0 = sym (ap (λ (o : Option Region). elim o [ None ↦ r | Some x ↦ x.home ]) at) ∙ at_home in
      own_or_around (owns g) here.around r q f is (rest (around ∙ zero_home)) at_home

  by_region : (o : Option Region) (r q : ℕ) (f : ℕ → Option ℕ) (g : Facts) → slice_get rs r ≡ o → settled (verdict_at g o) r f ≡ Some q
      → ((p : ℕ) → home_of rs p ≡ 0 → f p ≡ Some q → home_of rs q ≡ 0) → home_of rs r ≡ 0 → home_of rs q ≡ 0
  by_region None r q f g at is rest at_home = nothing q is
  by_region (Some here) r q f g at is rest at_home = by_kind here.kind r q here f g refl at is (rest here.around) at_home

  stays : (n : ℕ) (look : ℕ → Facts) (r q : ℕ) → home_of rs r ≡ 0 → owner n rs look r ≡ Some q → home_of rs q ≡ 0
  stays zero look r q at_home is = nothing q is
  stays (suc n) look r q at_home is =
      by_region (slice_get rs r) r q (λ p. owner n rs look p) (look r) refl is (λ p e i. stays n look p q e i) at_home

  -- a region with a number of a Next is one of the block

  numbered_home : (k h : ℕ) (xs : List Region) (ms : List (Option ℕ)) (n r : ℕ)
      → ((i : ℕ) (s : Region) → slice_get xs i ≡ Some s → slice_get rs (k + i) ≡ Some s) → numbered_behind k xs ms h n ≡ Some r → home_of rs r ≡ h
  numbered_home k h [] ms n r at is = nothing r is
  numbered_home k h (x ∷ xs) [] n r at is = nothing r is
  numbered_home k h (x ∷ xs) (m ∷ ms) n r at is =
      by (x.home == h) refl (is_number m n) is
      (numbered_home (suc k) h xs ms n r
      (λ i s e. let same : k + suc i ≡ suc k + i = omega arith in subst (λ j. slice_get rs j ≡ Some s) same (at (suc i) s e)))
    where
      by : (b : Bool) → (x.home == h) ≡ b → (c : Bool) → (if b && c then Some k else numbered_behind (suc k) xs ms h n) ≡ Some r
          → (numbered_behind (suc k) xs ms h n ≡ Some r → home_of rs r ≡ h) → home_of rs r ≡ h
      by true e true i rest =
          let same : k ≡ r = (let there : Some k ≡ Some r = i in cc) in
          let here : k + 0 ≡ r = (let plain : k + 0 ≡ k = omega arith in plain ∙ same) in
          ap (λ (o : Option Region). elim o [ None ↦ r | Some y ↦ y.home ]) (subst (λ j. slice_get rs j ≡ Some x) here (at 0 x refl)) ∙ eqb-true x.home h e
      by true e false i rest = rest i
      by false e c i rest = rest i

-- what is seen from a region of the module

not_kept : {X : Type 0} (b : Bool) → cell_or_local b ≡ T.free → X
not_kept true is = absurd (let same : T.cell ≡ T.free = is in cc)
not_kept false is = absurd (let same : T.local ≡ T.free = is in cc)

module _ (ss : Stms) where
  abbrev g : Places
  g = places_script ss

  seen_by : (r : ℕ) (x : Name) (o : Option ℕ) → home_of g.regions r ≡ 0 → owner_from g.regions (facts g.mentions x) r ≡ o
      → IsFree (of_owner g (home_of g.regions r) x o) → ⊥
  seen_by r x None at_home is free = absurd (let same : T.global ≡ T.free = free in cc)
  seen_by r x (Some q) at_home is free =
      let home : home_of g.regions q ≡ 0 = stays g.regions (regions_have_homes ss) refl (length g.regions) (facts g.mentions x) r q at_home is in
      let same : (home_of g.regions q == home_of g.regions r) ≡ true = eq-eqb (home_of g.regions q) (home_of g.regions r) (home ∙ sym at_home) in
      not_kept (is_captured g q x) (ap (λ (b : Bool). (if b then owned g q x else variable T.free x).scope) (sym same) ∙ free)

  pub not_seen : (r : ℕ) (x : Name) → home_of g.regions r ≡ 0 → IsFree (seen g r x) → ⊥
  not_seen r x at_home free = seen_by r x (owner_from g.regions (facts g.mentions x) r) at_home refl free

  owner_none : (look : ℕ → Facts) → owner_from g.regions look 0 ≡ None
  owner_none look = refl

  -- no declaration of the module says of a name that it is of a function around

  or_none : (o p : Option ScopeErr) → or_else o p ≡ None → (o ≡ None) × (p ≡ None)
  or_none None p is = (refl, is)
  or_none (Some e) p is = absurd (let same : Some e ≡ None = is in cc)

  by_role : (m : Mention) (e : Earlier) (r : Role) → fault false e m r ≡ None → is_nonlocal r ≡ false
  by_role m e Read is = refl
  by_role m e Bind is = refl
  by_role m e Parameter is = refl
  by_role m e Global is = refl
  by_role m e Nonlocal is = absurd (cc)
  by_role m e Misplaced is = refl

  one_bound : (before : List Mention) (m : Mention) (x : Name) → fault_at g.regions (facts g.mentions) before m ≡ None
      → (is_of 0 x m && is_nonlocal m.role) ≡ false
  one_bound before m x is = by (m.region == 0) refl (bytes_eq m.name x)
    where
      by : (b : Bool) → (m.region == 0) ≡ b → (c : Bool) → ((b && c) && is_nonlocal m.role) ≡ false
      by false e c = refl
      by true e false = refl
      by true e true =
          let in_module : m.region ≡ 0 = eqb-true m.region 0 e in
          let here : fault (is_some (owner_from g.regions (facts g.mentions m.name) 0)) (earlier g.regions (facts g.mentions) before m.name m.region) m m.role ≡ None =
          ap (λ (r : ℕ). fault (is_some (owner_from g.regions (facts g.mentions m.name) (around_at r (slice_get g.regions r))))
          (earlier g.regions (facts g.mentions) before m.name m.region) m m.role) (sym in_module) ∙ is in
          by_role m (earlier g.regions (facts g.mentions) before m.name m.region) m.role here

  none_bound : (before ms : List Mention) (x : Name) → first_fault g.regions (facts g.mentions) before ms ≡ None
      → list_any (λ m. is_of 0 x m && is_nonlocal m.role) ms ≡ false
  none_bound before [] x is = refl
  none_bound before (m ∷ ms) x is =
      let none = or_none (fault_at g.regions (facts g.mentions) before m) (first_fault g.regions (facts g.mentions) (before ++ m ∷ []) ms) is in
      ap (λ (b : Bool). b || list_any (λ m. is_of 0 x m && is_nonlocal m.role) ms) (one_bound before m x none.0)
      ∙ none_bound (before ++ m ∷ []) ms x none.1

  declared : (global nonlocal binds captured : Bool) → nonlocal ≡ false
      → as_control
      (if global then scope.Global else if nonlocal then scope.Free else if binds then bound_scope captured kind.Module else unbound_scope None) ≡
      T.free → ⊥
  declared true n b c h is = absurd (let same : T.global ≡ T.free = is in cc)
  declared false true b c h is = absurd (let same : true ≡ false = h in cc)
  declared false false true c h is = absurd (let same : T.global ≡ T.free = is in cc)
  declared false false false c h is = absurd (let same : T.global ≡ T.free = is in cc)

  module _ (none : fault_of g ≡ None) where
    not_own : (x : Name) → IsFree (own g 0 x) → ⊥
    not_own x free =
        let f = facts g.mentions x 0 in
        declared f.global f.nonlocal f.binds (is_captured_in g.regions (facts g.mentions) g.mentions 0 x) (none_bound [] g.mentions x none) free

    in_comprehension : (x : Name) (n : ℕ) (o : Option ℕ) → numbered g.regions (naming_script ss).nexts 0 n ≡ o → IsFree (seen g (unwrap_or o 0) x) → ⊥
    in_comprehension x n None is free = not_seen 0 x refl free
    in_comprehension x n (Some r) is free =
        not_seen r x
        (numbered_home g.regions (regions_have_homes ss) refl 0 0 g.regions (naming_script ss).nexts n r
        (λ i s e. let same : i ≡ 0 + i = omega arith in subst (λ j. slice_get g.regions j ≡ Some s) same e) is) free

    in_module : (within : List ℕ) (x : Name) → IsFree (variable_in (naming_script ss) 0 within x) → ⊥
    in_module [] x free = not_own x free
    in_module (n ∷ ns) x free = in_comprehension x n (numbered g.regions (naming_script ss).nexts 0 n) refl free

pub not_free : {V : Type 0} (v : V) (ss : Stms) → fault_of (places_script ss) ≡ None → (within : List ℕ) (x : Name)
    → ((around_of v ss 0).variable within x).scope ≡ T.free → ⊥
not_free v ss none within x free = in_module ss none within (spelled_in (naming_script ss) 0 x) free
