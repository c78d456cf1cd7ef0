-- What never changes of a log that counts, and how the count of faults of the log below goes on.
use Rattle.std.proofs.Common.{◌≡◌, ◌+◌, ◌*◌, ◌<◌, ◌≤◌, ◌∙◌, ◌^◌, ◌-◌, min, ℕ, Bool, true, false, cond, refl, sym, ap, subst, inl, inr, arith}
use Rattle.std.specs.Prelude.{nat_lt}
use Rattle.std.proofs.lemmas.Bool.{cases_Bool, ltb-true, ltb-false, lt-ltb, le-ltb}
use Rattle.pt_base.specs.Faults.{Rose}
use Rattle.pt_cover.specs.Fixed.{pair, faults_within, faults_beyond, fixed}

-- squares
square-more : (n k : ℕ) → (n + k) * (n + k) ≡ n * n + 2 * (n * k) + k * k
square-more n k = grind arith

square-next : (s t : ℕ) → s < t → s * s + s < t * t
square-next s t less =
    let k : ℕ = t - (s + 1) in
    let is : t ≡ s + (k + 1) = omega (arith, less) in
    let wide : t * t ≡ s * s + 2 * (s * (k + 1)) + (k + 1) * (k + 1) = ap (λ n. n * n) is ∙ square-more s (k + 1) in
    let part : s * (k + 1) ≡ s * k + s = grind arith in
    let one : 1 ≤ (k + 1) * (k + 1) = grind arith in
    omega (arith, wide, part, one)

-- the sums are the same
same-sum : (a b c d : ℕ) → pair a b ≡ pair c d → a + b ≡ c + d
same-sum a b c d e = go (nat_lt (a + b) (c + d)) (nat_lt (c + d) (a + b)) refl refl
  where
    go : (p q : Bool) → nat_lt (a + b) (c + d) ≡ p → nat_lt (c + d) (a + b) ≡ q → a + b ≡ c + d
    go true q f g = let far = square-next (a + b) (c + d) (ltb-true _ _ f) in absurd (omega (arith, far, e))
    go false true f g = let far = square-next (c + d) (a + b) (ltb-true _ _ g) in absurd (omega (arith, far, e))
    go false false f g = let x : c + d ≤ a + b = ltb-false _ _ f in let y : a + b ≤ c + d = ltb-false _ _ g in omega (arith, x, y)

pub pair-first : (a b c d : ℕ) → pair a b ≡ pair c d → a ≡ c
pair-first a b c d e =
    let sums : a + b ≡ c + d = same-sum a b c d e in
    let squares : (a + b) * (a + b) ≡ (c + d) * (c + d) = ap (λ n. n * n) sums in
    omega (arith, squares, e)

pub pair-second : (a b c d : ℕ) → pair a b ≡ pair c d → b ≡ d
pair-second a b c d e =
    let sums : a + b ≡ c + d = same-sum a b c d e in
    let first : a ≡ c = pair-first a b c d e in
    omega (arith, sums, first)

first-within : (a b : ℕ) → a ≤ pair a b
first-within a b = omega arith

-- of a call of a log that counts, from what was found of the log below
module _ (f f' m m' : ℕ) (later : f ≤ f') (most : m' ≡ m) (within : m' < f' → f' ≡ f) where
  same-beyond : faults_beyond f' m' ≡ faults_beyond f m
  same-beyond = go (nat_lt m f) (nat_lt m' f') refl refl
    where
      go : (p q : Bool) → nat_lt m f ≡ p → nat_lt m' f' ≡ q → cond q f' 0 ≡ cond p f 0
      go true true d e = within (ltb-true m' f' e)
      go true false d e = let x : m < f = ltb-true m f d in let y : f' ≤ m' = ltb-false m' f' e in absurd (omega (arith, later, most, x, y))
      go false true d e = let x : f ≤ m = ltb-false m f d in let y : m' < f' = ltb-true m' f' e in let z : f' ≡ f = within y in
          absurd (omega (arith, most, x, y, z))
      go false false d e = refl

  pub same-fixed : (n n' : ℕ) → n' ≡ n → fixed n' f' m' ≡ fixed n f m
  same-fixed n n' same = λ i. pair (most i) (pair (same i) (same-beyond i))

  pub goes-on : faults_within f m ≤ faults_within f' m'
  goes-on = go (nat_lt m f) (nat_lt m' f') refl refl
    where
      go : (p q : Bool) → nat_lt m f ≡ p → nat_lt m' f' ≡ q → cond p 0 f ≤ cond q 0 f'
      go true q d e = omega arith
      go false true d e = let x : f ≤ m = ltb-false m f d in let y : m' < f' = ltb-true m' f' e in let z : f' ≡ f = within y in
          absurd (omega (arith, most, x, y, z))
      go false false d e = later

  pub rose-within : Rose f f' × (f' ≤ m') → Rose (faults_within f m) (faults_within f' m')
  rose-within rose = go (nat_lt m f) (nat_lt m' f') refl refl
    where
      go : (p q : Bool) → nat_lt m f ≡ p → nat_lt m' f' ≡ q → Rose (cond p 0 f) (cond q 0 f')
      go true q d e = let x : m < f = ltb-true m f d in let y : f' ≤ m' = rose.1 in absurd (omega (arith, later, most, x, y))
      go false true d e = let x : m' < f' = ltb-true m' f' e in let y : f' ≤ m' = rose.1 in absurd (omega (arith, x, y))
      go false false d e = rose.0

pub within-fixed : (n f m : ℕ) → faults_within f m ≤ fixed n f m
within-fixed n f m = go (nat_lt m f) refl
  where
    go : (p : Bool) → nat_lt m f ≡ p → cond p 0 f ≤ fixed n f m
    go true e = omega arith
    go false e = let x : f ≤ m = ltb-false m f e in let y : m ≤ fixed n f m = first-within m _ in omega (arith, x, y)

-- of calls of a log that counts: what they tell of the log below
module _ (n n' f f' m m' : ℕ) (same : fixed n' f' m' ≡ fixed n f m) where
  pub same-most : m' ≡ m
  same-most = pair-first m' _ m _ same

  pub same-name : n' ≡ n
  same-name = pair-first n' _ n _ (pair-second m' _ m _ same)

  still-beyond : faults_beyond f' m' ≡ faults_beyond f m
  still-beyond = pair-second n' _ n _ (pair-second m' _ m _ same)

  beyond-both : (p q : Bool) → nat_lt m f ≡ p → nat_lt m' f' ≡ q → cond q f' 0 ≡ cond p f 0
  beyond-both p q d e = ap (λ b. cond b f' 0) (sym e) ∙ still-beyond ∙ ap (λ b. cond b f 0) d

  pub went-on : faults_within f m ≤ faults_within f' m' → f ≤ f'
  went-on less = go (nat_lt m f) (nat_lt m' f') refl refl less
    where
      go : (p q : Bool) → nat_lt m f ≡ p → nat_lt m' f' ≡ q → cond p 0 f ≤ cond q 0 f' → f ≤ f'
      go true true d e l = let z : f' ≡ f = beyond-both true true d e in omega (arith, z)
      go true false d e l = let z : 0 ≡ f = beyond-both true false d e in let x : m < f = ltb-true m f d in absurd (omega (arith, z, x))
      go false true d e l = let z : f' ≡ 0 = beyond-both false true d e in let x : m' < f' = ltb-true m' f' e in absurd (omega (arith, z, x))
      go false false d e l = l

  pub rose : Rose (faults_within f m) (faults_within f' m') → Rose f f' × (f' ≤ m')
  rose r = go (nat_lt m f) (nat_lt m' f') refl refl r
    where
      go : (p q : Bool) → nat_lt m f ≡ p → nat_lt m' f' ≡ q → Rose (cond p 0 f) (cond q 0 f') → Rose f f' × (f' ≤ m')
      go true true d e l = absurd (omega (arith, l))
      go true false d e l = let z : 0 ≡ f = beyond-both true false d e in let x : m < f = ltb-true m f d in absurd (omega (arith, z, x))
      go false true d e l = let z : f' ≡ 0 = beyond-both false true d e in let x : m' < f' = ltb-true m' f' e in absurd (omega (arith, z, x))
      go false false d e l = (l, ltb-false m' f' e)
