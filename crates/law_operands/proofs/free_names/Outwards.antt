-- From a region of a block outwards the block itself is left before what lies further out is reached, and from a block on its maker.
use Rattle.std.proofs.Common.{◌≡◌, ℕ, zero, suc, ◌≤◌, Bool, true, false, if◌then◌else◌, List, [], ◌∷◌, Option, Some, None, refl, sym, ap, ◌∙◌, subst, arith, eq-eqb, eqb-true}
use Rattle.std.specs.Prelude.{◌==◌, ◌||◌, slice_get}
use Rattle.pt_scopes.specs.declared.region.Kind.{Kind}
use Rattle.pt_scopes.specs.declared.region.Kind.TheVariants as kind
use Rattle.pt_scopes.specs.declared.region.Region.{Region}
use Rattle.pt_scopes.specs.Scope.{home_at, home_of}
use Rattle.sem_names.specs.Regions.{around_in, before, further, is_among, outside}
use Rattle.law_names.proofs.module_names.Homes.{OfKind, HasHome}

pub never : {X : Type 0} → false ≡ true → X
never is = absurd (let same : false ≡ true = is in cc)

pub nothing_is : {X A : Type 0} (x : A) → None ≡ Some x → X
nothing_is x is = absurd (let same : None ≡ Some x = is in cc)

pub or_left : (b c : Bool) → b ≡ true → (b || c) ≡ true
or_left true c is = refl
or_left false c is = never is

or_inside : (e b c : Bool) → (e || c) ≡ true → (e || (b || c)) ≡ true
or_inside true b c is = refl
or_inside false true c is = refl
or_inside false false c is = is

or_here : (e b c : Bool) → b ≡ true → (e || (b || c)) ≡ true
or_here true b c is = refl
or_here false b c is = or_left b c is

module _ (rs : List Region) (homes : (i : ℕ) (r : Region) → slice_get rs i ≡ Some r → HasHome rs i r) (h : ℕ) where
  itself : {X : Type 0} (r : ℕ) (here : Region) → slice_get rs r ≡ Some here → home_of rs r ≡ h → (r == h) ≡ false → here.home ≡ r → X
  itself r here at home apart own =
      let same : r ≡ h = sym own ∙ sym (ap (home_at r) at) ∙ home in
      never (sym apart ∙ eq-eqb r h same)

  by_kind : {X : Type 0} (k : Kind) (r : ℕ) (here : Region) → here.kind ≡ k → slice_get rs r ≡ Some here → home_of rs r ≡ h → (r == h) ≡ false
      → (here.kind ≡ kind.Comprehension → home_of rs here.around ≡ h → X) → X
  by_kind kind.Module r here e at home apart f = itself r here at home apart (subst (λ k. OfKind rs r here k) e (homes r here at))
  by_kind kind.Function r here e at home apart f = itself r here at home apart (subst (λ k. OfKind rs r here k) e (homes r here at))
  by_kind kind.Class r here e at home apart f = itself r here at home apart (subst (λ k. OfKind rs r here k) e (homes r here at))
  by_kind kind.Comprehension r here e at home apart f =
      f e (subst (λ k. OfKind rs r here k) e (homes r here at) ∙ sym (ap (home_at r) at) ∙ home)

  -- a region of the block that isn't the block itself is a comprehension, which stands in a region of the block
  pub comprehension_of : {X : Type 0} (r : ℕ) (here : Region) → slice_get rs r ≡ Some here → home_of rs r ≡ h → (r == h) ≡ false
      → (here.kind ≡ kind.Comprehension → home_of rs here.around ≡ h → X) → X
  comprehension_of r here at home apart f = by_kind here.kind r here refl at home apart f

-- what is found from a region on is at most so many steps outwards
pub record Found (rs : List Region) (q : ℕ) (ask : (steps region : ℕ) → Option ℕ) : Type 0 where
  pub none : (r : ℕ) → ask 0 r ≡ Some q → ⊥
  pub missing : (n r : ℕ) → slice_get rs r ≡ None → ask (suc n) r ≡ Some q → ⊥
  pub step : (n r : ℕ) (here : Region) → slice_get rs r ≡ Some here → (r == q) ≡ false → ask (suc n) r ≡ Some q
      → (around_in here.around here.kind ≡ Some here.around) × (ask n here.around ≡ Some q)

-- from a block that is left the search goes on with fewer steps
module _ (rs : List Region) (q : ℕ) (ask : (steps region : ℕ) → Option ℕ) (found : Found rs q ask) (k : ℕ) (block : Region)
    (is_block : slice_get rs k ≡ Some block) where
  abbrev pub FoundBehind : ℕ → Type 0
  FoundBehind n = (m : ℕ) × (m ≤ n) × (ask m block.around ≡ Some q)

  behind_further : (n r : ℕ) (o : Option Region) → slice_get rs r ≡ o → (r == q) ≡ false → ask (suc n) r ≡ Some q
      → is_among (further (outside o) (λ p. before n rs q p)) k ≡ true
      → ((p : ℕ) → is_among (before n rs q p) k ≡ true → ask n p ≡ Some q → FoundBehind n) → FoundBehind n
  behind_further n r None at apart is inside rest = never inside
  behind_further n r (Some here) at apart is inside rest =
      let next = found.step n r here at apart is in
      rest here.around (subst (λ (o : Option ℕ). is_among (further o (λ p. before n rs q p)) k ≡ true) next.0 inside) next.1

  behind_block : (n r : ℕ) (b : Bool) → (r == k) ≡ b → (r == q) ≡ false → ask (suc n) r ≡ Some q
      → (b || is_among (further (outside (slice_get rs r)) (λ p. before n rs q p)) k) ≡ true
      → ((p : ℕ) → is_among (before n rs q p) k ≡ true → ask n p ≡ Some q → FoundBehind n) → FoundBehind n
  behind_block n r true same apart is inside rest =
      let at : slice_get rs r ≡ Some block = ap (slice_get rs) (eqb-true r k same) ∙ is_block in
      (n, omega arith, (found.step n r block at apart is).1)
  behind_block n r false same apart is inside rest = behind_further n r (slice_get rs r) refl apart is inside rest

  behind_end : (n r : ℕ) (b : Bool) → (r == q) ≡ b → ask (suc n) r ≡ Some q
      → is_among (if b then [] else r ∷ further (outside (slice_get rs r)) (λ p. before n rs q p)) k ≡ true
      → ((p : ℕ) → is_among (before n rs q p) k ≡ true → ask n p ≡ Some q → FoundBehind n) → FoundBehind n
  behind_end n r true same is inside rest = never inside
  behind_end n r false same is inside rest = behind_block n r (r == k) refl same is inside rest

  pub found_behind : (n r : ℕ) → is_among (before n rs q r) k ≡ true → ask n r ≡ Some q → FoundBehind n
  found_behind zero r inside is = never inside
  found_behind (suc n) r inside is =
      let there = behind_end n r (r == q) refl is inside (λ p in_list at. found_behind n p in_list at) in
      let le = there.1 in
      (there.0, omega (arith, le), there.2)

module _ (rs : List Region) (homes : (i : ℕ) (r : Region) → slice_get rs i ≡ Some r → HasHome rs i r) (h q : ℕ) (ask : (steps region : ℕ) → Option ℕ)
    (found : Found rs q ask) (e : Bool) (ends : home_of rs q ≡ h → e ≡ true) where
  abbrev Left : ℕ → ℕ → Type 0
  Left n r = (e || is_among (before n rs q r) h) ≡ true

  further_left : (n r : ℕ) (o : Option Region) → slice_get rs r ≡ o → home_of rs r ≡ h → (r == h) ≡ false → (r == q) ≡ false → ask (suc n) r ≡ Some q
      → ((p : ℕ) → home_of rs p ≡ h → ask n p ≡ Some q → Left n p) → (e || is_among (further (outside o) (λ p. before n rs q p)) h) ≡ true
  further_left n r None at home other apart is rest = absurd (found.missing n r at is)
  further_left n r (Some here) at home other apart is rest =
      comprehension_of rs homes h r here at home other
      (λ k around.
      let next = found.step n r here at apart is in
      subst (λ (o : Option ℕ). (e || is_among (further o (λ p. before n rs q p)) h) ≡ true) (sym next.0) (rest here.around around next.1))

  at_block : (n r : ℕ) (b : Bool) → (r == h) ≡ b → home_of rs r ≡ h → (r == q) ≡ false → ask (suc n) r ≡ Some q
      → ((p : ℕ) → home_of rs p ≡ h → ask n p ≡ Some q → Left n p)
      → (e || ((r == h) || is_among (further (outside (slice_get rs r)) (λ p. before n rs q p)) h)) ≡ true
  at_block n r true same home apart is rest = or_here e (r == h) (is_among (further (outside (slice_get rs r)) (λ p. before n rs q p)) h) same
  at_block n r false same home apart is rest =
      or_inside e (r == h) (is_among (further (outside (slice_get rs r)) (λ p. before n rs q p)) h)
      (further_left n r (slice_get rs r) refl home same apart is rest)

  at_end : (n r : ℕ) (b : Bool) → (r == q) ≡ b → home_of rs r ≡ h → ask (suc n) r ≡ Some q → ((p : ℕ) → home_of rs p ≡ h → ask n p ≡ Some q → Left n p)
      → (e || is_among (if b then [] else r ∷ further (outside (slice_get rs r)) (λ p. before n rs q p)) h) ≡ true
  at_end n r true same home is rest = or_left e false (ends (subst (λ p. home_of rs p ≡ h) (eqb-true r q same) home))
  at_end n r false same home is rest = at_block n r (r == h) refl home same is rest

  -- from a region of the block on
  pub leaves : (n r : ℕ) → home_of rs r ≡ h → ask n r ≡ Some q → Left n r
  leaves zero r home is = absurd (found.none r is)
  leaves (suc n) r home is = at_end n r (r == q) refl home is (λ p around found_there. leaves n p around found_there)

  -- from a region on behind which a block is left that stands in the block
  module _ (k : ℕ) (block : Region) (is_block : slice_get rs k ≡ Some block) (made : home_of rs block.around ≡ h) where
    from_made : (n : ℕ) (o : Option Region) → o ≡ Some block → (k == q) ≡ false → ask (suc n) k ≡ Some q
        → (e || is_among (further (outside o) (λ p. before n rs q p)) h) ≡ true
    from_made n o same apart is =
        let next = found.step n k block is_block apart is in
        subst (λ (o : Option Region). (e || is_among (further (outside o) (λ p. before n rs q p)) h) ≡ true) (sym same)
        (subst (λ (o : Option ℕ). (e || is_among (further o (λ p. before n rs q p)) h) ≡ true) (sym next.0) (leaves n block.around made next.1))

    further_on : (n r : ℕ) (o : Option Region) → slice_get rs r ≡ o → (r == q) ≡ false → ask (suc n) r ≡ Some q
        → is_among (further (outside o) (λ p. before n rs q p)) k ≡ true
        → ((p : ℕ) → is_among (before n rs q p) k ≡ true → ask n p ≡ Some q → Left n p)
        → (e || is_among (further (outside o) (λ p. before n rs q p)) h) ≡ true
    further_on n r None at apart is inside rest = never inside
    further_on n r (Some here) at apart is inside rest =
        let next = found.step n r here at apart is in
        let there = subst (λ (o : Option ℕ). is_among (further o (λ p. before n rs q p)) k ≡ true) next.0 inside in
        subst (λ (o : Option ℕ). (e || is_among (further o (λ p. before n rs q p)) h) ≡ true) (sym next.0) (rest here.around there next.1)

    at_made : (n r : ℕ) (b : Bool) → (r == k) ≡ b → (r == q) ≡ false → ask (suc n) r ≡ Some q
        → (b || is_among (further (outside (slice_get rs r)) (λ p. before n rs q p)) k) ≡ true
        → ((p : ℕ) → is_among (before n rs q p) k ≡ true → ask n p ≡ Some q → Left n p)
        → (e || is_among (further (outside (slice_get rs r)) (λ p. before n rs q p)) h) ≡ true
    at_made n r true same apart is inside rest =
        let here : r ≡ k = eqb-true r k same in
        from_made n (slice_get rs r) (ap (slice_get rs) here ∙ is_block) (subst (λ p. (p == q) ≡ false) here apart)
        (subst (λ p. ask (suc n) p ≡ Some q) here is)
    at_made n r false same apart is inside rest = further_on n r (slice_get rs r) refl apart is inside rest

    on_end : (n r : ℕ) (b : Bool) → (r == q) ≡ b → ask (suc n) r ≡ Some q
        → is_among (if b then [] else r ∷ further (outside (slice_get rs r)) (λ p. before n rs q p)) k ≡ true
        → ((p : ℕ) → is_among (before n rs q p) k ≡ true → ask n p ≡ Some q → Left n p)
        → (e || is_among (if b then [] else r ∷ further (outside (slice_get rs r)) (λ p. before n rs q p)) h) ≡ true
    on_end n r true same is inside rest = never inside
    on_end n r false same is inside rest =
        or_inside e (r == h) (is_among (further (outside (slice_get rs r)) (λ p. before n rs q p)) h) (at_made n r (r == k) refl same is inside rest)

    pub passes_on : (n r : ℕ) → is_among (before n rs q r) k ≡ true → ask n r ≡ Some q → Left n r
    passes_on zero r inside is = never inside
    passes_on (suc n) r inside is = on_end n r (r == q) refl is inside (λ p there found_there. passes_on n p there found_there)
