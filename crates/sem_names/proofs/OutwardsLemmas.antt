-- An owner that lies outside of a block, seen from within it, is found from around the block too.
use Rattle.std.proofs.Common.{◌≡◌, ℕ, zero, suc, ◌+◌, ◌-◌, ◌≤◌, Bool, true, false, if◌then◌else◌, List, [], ◌∷◌, length, Option, Some, None, ◌⊎◌, inl, inr, refl, sym, ◌∙◌, subst, arith, eqb-true, eq-eqb}
use Rattle.std.specs.Prelude.{◌==◌, ◌||◌, slice_get}
use Rattle.pt_scopes.specs.declared.region.Facts.{Facts}
use Rattle.pt_scopes.specs.declared.region.Kind.{Kind}
use Rattle.pt_scopes.specs.declared.region.Kind.TheVariants as kind
use Rattle.pt_scopes.specs.declared.region.Region.{Region}
use Rattle.pt_scopes.specs.declared.region.Verdict.{Verdict}
use Rattle.pt_scopes.specs.declared.region.Verdict.TheVariants.{Own, Nobody, Outwards}
use Rattle.pt_scopes.specs.Scope.{owner, owner_from, owns, settled, verdict, verdict_at}
use Rattle.sem_names.specs.Regions.{around_in, before, further, is_among, outside}

pub never : {X : Type 0} → false ≡ true → X
never is = absurd (let same : false ≡ true = is in cc)

pub nothing_is : {X A : Type 0} (x : A) → None ≡ Some x → X
nothing_is x is = absurd (let same : None ≡ Some x = is in cc)

-- more steps find no less

settled_step : (v : Verdict) (r q : ℕ) (f g : ℕ → Option ℕ) → ((p : ℕ) → f p ≡ Some q → g p ≡ Some q) → settled v r f ≡ Some q → settled v r g ≡ Some q
settled_step Own r q f g le is = is
settled_step Nobody r q f g le is = is
settled_step (Outwards p) r q f g le is = le p is

owner_step : (n : ℕ) (rs : List Region) (look : ℕ → Facts) (r q : ℕ) → owner n rs look r ≡ Some q → owner (suc n) rs look r ≡ Some q
owner_step zero rs look r q is = nothing_is q is
owner_step (suc n) rs look r q is =
    settled_step (verdict_at (look r) (slice_get rs r)) r q (λ p. owner n rs look p) (λ p. owner (suc n) rs look p) (λ p. owner_step n rs look p q) is

-- what holds of a number holds of greater ones
lift : (P : ℕ → Type 0) → ((n : ℕ) → P n → P (suc n)) → (k n : ℕ) → P n → P (k + n)
lift P step zero n is = let same : n ≡ 0 + n = omega arith in subst P same is
lift P step (suc k) n is = let same : suc (k + n) ≡ suc k + n = omega arith in subst P same (step (k + n) (lift P step k n is))

lifted : (P : ℕ → Type 0) → ((n : ℕ) → P n → P (suc n)) → (n m : ℕ) → n ≤ m → P n → P m
lifted P step n m le is = let same : (m - n) + n ≡ m = omega arith in subst P same (lift P step (m - n) n is)

-- a region has the name, or what is around it tells
function_tells : (own global : Bool) (a r q : ℕ) (g : ℕ → Option ℕ)
    → settled (if own then Own else if global then Nobody else Outwards a) r g ≡ Some q → (r ≡ q) ⊎ (g a ≡ Some q)
function_tells true global a r q g is = inl (let same : Some r ≡ Some q = is in cc)
function_tells false true a r q g is = nothing_is q is
function_tells false false a r q g is = inr is

comprehension_tells : (own : Bool) (a r q : ℕ) (g : ℕ → Option ℕ) → settled (if own then Own else Outwards a) r g ≡ Some q → (r ≡ q) ⊎ (g a ≡ Some q)
comprehension_tells true a r q g is = inl (let same : Some r ≡ Some q = is in cc)
comprehension_tells false a r q g is = inr is

tells : (f : Facts) (here : Region) (k : Kind) (r q : ℕ) (g : ℕ → Option ℕ) → settled (verdict f here k) r g ≡ Some q → (r ≡ q) ⊎ (g here.around ≡ Some q)
tells f here kind.Module r q g is = nothing_is q is
tells f here kind.Function r q g is = function_tells (owns f) f.global here.around r q g is
tells f here kind.Class r q g is = inr is
tells f here kind.Comprehension r q g is = comprehension_tells (owns f) here.around r q g is

-- a region further outwards is one around
is_around : (a : ℕ) (k : Kind) (h : ℕ) (f : ℕ → List ℕ) → is_among (further (around_in a k) f) h ≡ true → is_among (f a) h ≡ true
is_around a kind.Module h f is = never is
is_around a kind.Function h f is = is
is_around a kind.Class h f is = is
is_around a kind.Comprehension h f is = is

apart_is : {X : Type 0} (r q : ℕ) → (r == q) ≡ false → r ≡ q → X
apart_is r q apart same = never (sym apart ∙ eq-eqb r q same)

module _ (rs : List Region) (look : ℕ → Facts) (h q : ℕ) (here : Region) (is_here : slice_get rs h ≡ Some here) where
  to_length : (n r : ℕ) → n ≤ length rs → owner n rs look r ≡ Some q → owner_from rs look r ≡ Some q
  to_length n r le is = lifted (λ m. owner m rs look r ≡ Some q) (λ m. owner_step m rs look r q) n (length rs) le is

  from_block : (n : ℕ) → (h == q) ≡ false → suc n ≤ length rs → (h ≡ q) ⊎ (owner n rs look here.around ≡ Some q) → owner_from rs look here.around ≡ Some q
  from_block n apart le (inl same) = apart_is h q apart same
  from_block n apart le (inr is) = to_length n here.around (omega arith) is

  at_block : (n : ℕ) (o : Option Region) → o ≡ Some here → (h == q) ≡ false → suc n ≤ length rs
      → settled (verdict_at (look h) o) h (λ p. owner n rs look p) ≡ Some q → owner_from rs look here.around ≡ Some q
  at_block n o same apart le is =
      let there : settled (verdict (look h) here here.kind) h (λ p. owner n rs look p) ≡ Some q =
      subst (λ (p : Option Region). settled (verdict_at (look h) p) h (λ p. owner n rs look p) ≡ Some q) same is in
      from_block n apart le (tells (look h) here here.kind h q (λ p. owner n rs look p) there)

  abbrev All_pass : (n : ℕ) → Type 0
  All_pass n = (r : ℕ) → is_among (before n rs q r) h ≡ true → owner n rs look r ≡ Some q → owner_from rs look here.around ≡ Some q

  onwards : (n r : ℕ) (there : Region) → (r == q) ≡ false → All_pass n → is_among (before n rs q there.around) h ≡ true
      → (r ≡ q) ⊎ (owner n rs look there.around ≡ Some q) → owner_from rs look here.around ≡ Some q
  onwards n r there apart pass inside (inl same) = apart_is r q apart same
  onwards n r there apart pass inside (inr is) = pass there.around inside is

  further_in : (n r : ℕ) (o : Option Region) → (r == q) ≡ false → All_pass n → is_among (further (outside o) (λ p. before n rs q p)) h ≡ true
      → settled (verdict_at (look r) o) r (λ p. owner n rs look p) ≡ Some q → owner_from rs look here.around ≡ Some q
  further_in n r None apart pass inside is = never inside
  further_in n r (Some there) apart pass inside is =
      onwards n r there apart pass (is_around there.around there.kind h (λ p. before n rs q p) inside)
      (tells (look r) there there.kind r q (λ p. owner n rs look p) is)

  at_region : (n r : ℕ) (b : Bool) → (r == h) ≡ b → (r == q) ≡ false → suc n ≤ length rs → All_pass n
      → is_among (r ∷ further (outside (slice_get rs r)) (λ p. before n rs q p)) h ≡ true → owner (suc n) rs look r ≡ Some q
      → owner_from rs look here.around ≡ Some q
  at_region n r true same apart le pass inside is =
      let at_h : r ≡ h = eqb-true r h same in
      at_block n (slice_get rs h) is_here (subst (λ (p : ℕ). (p == q) ≡ false) at_h apart) le
      (subst (λ (p : ℕ). owner (suc n) rs look p ≡ Some q) at_h is)
  at_region n r false same apart le pass inside is =
      further_in n r (slice_get rs r) apart pass
      (subst (λ (b : Bool). (b || is_among (further (outside (slice_get rs r)) (λ p. before n rs q p)) h) ≡ true) same inside) is

  at_end : (n r : ℕ) (b : Bool) → (r == q) ≡ b → suc n ≤ length rs → All_pass n
      → is_among (if b then [] else r ∷ further (outside (slice_get rs r)) (λ p. before n rs q p)) h ≡ true → owner (suc n) rs look r ≡ Some q
      → owner_from rs look here.around ≡ Some q
  at_end n r true same le pass inside is = never inside
  at_end n r false same le pass inside is = at_region n r (r == h) refl same le pass inside is

  -- from a region on, behind which the block is left before the owner is reached
  pub passes : (n : ℕ) → n ≤ length rs → All_pass n
  passes zero le r inside is = never inside
  passes (suc n) le r inside is = at_end n r (r == q) refl le (passes n (omega arith)) inside is
