-- Powers, as they are defined and as they are computed.
use Rattle.std.proofs.Common.{◌≡◌, ◌≢◌, ℕ, zero, suc, ◌-◌, ◌*◌, ◌%◌, ◌^◌, ◌<◌, ◌≤◌, ℤ, pos, negsuc, refl, sym, ap, ◌∙◌, arith, inl, inr, to_z, of_z, cond, true, false, subst}
use Rattle.std.specs.Prelude.{neg_ℤ, ◌*ℤ◌, ◌==◌, ◌⊎◌, FitsSigned, unsigned_abs}
use Rattle.std.specs.Int.{w128, int_pow}
use Rattle.std.proofs.Math.Nat.{pow-succ', pow-zero, one-le-pow, pow-le-pow_left, pow-le-pow_right}
use Rattle.std.proofs.lemmas.Bool.{cases_eq, eq-eqb, ne_eqb, cond-true, cond-false}
use Rattle.std.proofs.lemmas.Int.{ints, unsigned_abs-mul}
use Rattle.pt_ints.specs.declared.answer.IntAns.TheVariants.{Value, Range}
use Rattle.pt_ints.specs.Answer.{ranged}
use Rattle.pt_ints.specs.Integers.{power}
use Rattle.pt_ints.proofs.RangeLemmas.{kept, ranged_value, ranged_range, zero_bits, one_bits, minus_one_bits, some_bits, not_one, not_minus_one}

-- even and odd take turns
turns : (e : ℕ) → (((e % 2 == 0) ≡ true) × ((suc e % 2 == 0) ≡ false)) ⊎ (((e % 2 == 0) ≡ false) × ((suc e % 2 == 0) ≡ true))
turns e = elim (cases_eq (e % 2) 0) [
  | inl even ↦ inl (eq-eqb _ _ even, ne_eqb _ _ (omega arith))
  | inr odd ↦ inr (ne_eqb _ _ odd, eq-eqb _ _ (omega arith))
]

positive_times : (a m n : ℕ) → n ≡ suc m → pos (suc a * n) ≡ negsuc a *ℤ neg_ℤ (pos n)
positive_times a m n e = rw e refl

negative_times : (a n : ℕ) → neg_ℤ (pos (suc a * n)) ≡ negsuc a *ℤ pos n
negative_times a n = refl

int_pow_next : (a : ℤ) (e : ℕ) → int_pow a (suc e) ≡ a *ℤ int_pow a e
int_pow_next (pos a) e = ap pos (pow-succ' a e)
int_pow_next (negsuc a) e = elim (turns e) [
  | inl even ↦ rw (even.0, even.1, pow-succ' (suc a) e) (negative_times a (suc a ^ e))
  | inr odd ↦ rw (odd.0, odd.1, pow-succ' (suc a) e) (positive_times a (suc a ^ e - 1) (suc a ^ e) (omega (arith, one-le-pow e (suc a) (omega arith))))
]

pub power_is : (a : ℤ) (e : ℕ) → int_pow a e ≡ power a e
power_is (pos a) zero = ap pos (pow-zero a)
power_is (negsuc a) zero = ap pos (pow-zero (suc a))
power_is a (suc e) = int_pow_next a e ∙ ap (λ z. a *ℤ z) (power_is a e)

zero_times : (z : ℤ) → pos 0 *ℤ z ≡ pos 0
zero_times (pos n) = omega (arith, ints)
zero_times (negsuc n) = omega (arith, ints)

-- powers of 0 and 1, of -1, and of the others
pub power_zero : (e : ℕ) → 0 < e → power (pos 0) e ≡ pos 0
power_zero zero h = absurd (omega arith)
power_zero (suc e) h = zero_times (power (pos 0) e)

pub power_one : (e : ℕ) → power (pos 1) e ≡ pos 1
power_one zero = refl
power_one (suc e) = ap (λ z. pos 1 *ℤ z) (power_one e)

pub power_minus_one : (e : ℕ) → power (negsuc 0) e ≡ cond (e % 2 == 0) (pos 1) (negsuc 0)
power_minus_one zero = refl
power_minus_one (suc e) = elim (turns e) [
  | inl even ↦
      let e' : power (negsuc 0) e ≡ pos 1 = power_minus_one e ∙ cond-true _ _ _ even.0 in
      rw (even.1, e') refl
  | inr odd ↦
      let e' : power (negsuc 0) e ≡ negsuc 0 = power_minus_one e ∙ cond-false _ _ _ odd.0 in
      rw (odd.1, e') refl
]

unsigned_abs-power : (a : ℤ) (e : ℕ) → unsigned_abs (power a e) ≡ unsigned_abs a ^ e
unsigned_abs-power a zero = sym (pow-zero (unsigned_abs a))
unsigned_abs-power a (suc e) = unsigned_abs-mul a (power a e) ∙ ap (λ n. unsigned_abs a * n) (unsigned_abs-power a e) ∙ sym (pow-succ' (unsigned_abs a) e)

-- the size of a number in range
pub fits_size : (z : ℤ) → FitsSigned w128 z → unsigned_abs z ≤ 2 ^ 127
fits_size (pos n) f = omega (arith, f.sfits)
fits_size (negsuc n) f = omega (arith, f.sfits)

large : (a : ℤ) → a ≢ pos 0 → a ≢ pos 1 → a ≢ negsuc 0 → 2 ≤ unsigned_abs a
large (pos zero) p q r = absurd (p refl)
large (pos (suc zero)) p q r = absurd (q refl)
large (pos (suc (suc n))) p q r = omega arith
large (negsuc zero) p q r = absurd (r refl)
large (negsuc (suc n)) p q r = omega arith

pub power_large : (a : ℤ) (e : ℕ) → a ≢ pos 0 → a ≢ pos 1 → a ≢ negsuc 0 → 128 ≤ e → FitsSigned w128 (power a e) → ⊥
power_large a e p q r h f =
    let size : 2 ^ e ≤ unsigned_abs a ^ e = pow-le-pow_left (large a p q r) e in
    let more : 2 ^ 128 ≤ 2 ^ e = pow-le-pow_right {n = 2} (omega arith) {i = 128} {j = e} h in
    omega (arith, size, more, unsigned_abs-power a e, fits_size (power a e) f)

-- what the code answers, from its own numbers
module _ (a : ℤ) (fits : FitsSigned w128 a) where
  whole_bits : (e : ℕ) → int_pow (to_z w128 (of_z w128 a)) e ≡ power a e
  whole_bits e = ap (λ z. int_pow z e) (kept a fits) ∙ power_is a e

  pub small_value : (e : ℕ) (p : ℤ) → FitsSigned w128 p → p ≡ int_pow (to_z w128 (of_z w128 a)) e → Value (to_z w128 (of_z w128 p)) ≡ ranged (power a e)
  small_value e p fits_p is = ap Value (kept p fits_p) ∙ ranged_value _ p fits_p (is ∙ whole_bits e)

  pub small_range : (e : ℕ) → (FitsSigned w128 (int_pow (to_z w128 (of_z w128 a)) e) → ⊥) → Range ≡ ranged (power a e)
  small_range e out = ranged_range _ (λ h. out (subst (λ z. FitsSigned w128 z) (sym (whole_bits e)) h))

  module _ (e : ℕ) (many : 128 ≤ e) where
    pub of_zero : of_z w128 a ≡ 0 → Value (pos 0) ≡ ranged (power a e)
    of_zero is = sym (ap ranged (ap (λ z. power z e) (zero_bits a fits is) ∙ power_zero e (omega arith)))

    pub of_one : of_z w128 a ≡ 1 → Value (pos 1) ≡ ranged (power a e)
    of_one is = sym (ap ranged (ap (λ z. power z e) (one_bits a fits is) ∙ power_one e))

    pub of_minus_one_even : of_z w128 a ≡ 2 ^ 128 - 1 → e % 2 ≡ 0 → Value (pos 1) ≡ ranged (power a e)
    of_minus_one_even is even =
        sym (ap ranged (ap (λ z. power z e) (minus_one_bits a fits is) ∙ power_minus_one e ∙ cond-true _ _ _ (eq-eqb _ _ even)))

    pub of_minus_one_odd : of_z w128 a ≡ 2 ^ 128 - 1 → (e % 2 ≡ 0 → ⊥) → Value (negsuc 0) ≡ ranged (power a e)
    of_minus_one_odd is odd =
        sym (ap ranged (ap (λ z. power z e) (minus_one_bits a fits is) ∙ power_minus_one e ∙ cond-false _ _ _ (ne_eqb _ _ odd)))

    pub of_others : (of_z w128 a ≡ 0 → ⊥) → (of_z w128 a ≡ 1 → ⊥) → (of_z w128 a ≡ 2 ^ 128 - 1 → ⊥) → Range ≡ ranged (power a e)
    of_others p q r = ranged_range _ (power_large a e (some_bits a p) (not_one a q) (not_minus_one a r) many)
