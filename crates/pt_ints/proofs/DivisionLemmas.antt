-- Quotients that are rounded towards minus infinity.
use Rattle.std.proofs.Common.{◌≡◌, ◌≢◌, ℕ, zero, suc, ◌+◌, ◌*◌, ◌/◌, ◌%◌, ◌<◌, ◌≤◌, ℤ, pos, negsuc, refl, sym, ap, ◌∙◌, arith, inl, inr, to_z, of_z}
use Rattle.std.specs.Prelude.{neg_ℤ, ◌+ℤ◌, ◌-ℤ◌, ◌<ℤ◌, FitsSigned, true, int_lt}
use Rattle.std.specs.Int.{w128, int_div_euclid, int_rem_euclid}
use Rattle.std.proofs.Math.Nat.{zero-div, zero-mod}
use Rattle.std.proofs.lemmas.Bool.{cases_lt}
use Rattle.std.proofs.lemmas.Int.{ints}
use Rattle.std.proofs.lemmas.Nat.{div-mul-add, mod-mul-add, div-add-mod', mod_below}
use Rattle.pt_ints.specs.declared.answer.IntAns.TheVariants.{Value}
use Rattle.pt_ints.specs.Answer.{divided}
use Rattle.pt_ints.specs.Integers.{floor_quotient, floor_remainder}
use Rattle.pt_ints.proofs.RangeLemmas.{divided_value, kept, kept_less_one, kept_sum, zero_bits, some_bits, below_zero}

pub quotient_is : (n d q r : ℕ) → n ≡ q * d + r → r < d → n / d ≡ q
quotient_is n d q r e h = ap (λ x. x / d) e ∙ div-mul-add q d r h

rest_is : (n d q r : ℕ) → n ≡ q * d + r → r < d → n % d ≡ r
rest_is n d q r e h = ap (λ x. x % d) e ∙ mod-mul-add q d r h

-- one more either has the same quotient, or is a multiple
module _ (n d : ℕ) where
  same_row : suc (n % suc d) < suc d → (suc n / suc d ≡ n / suc d) × (suc n % suc d ≡ suc (n % suc d))
  same_row h =
      let e : suc n ≡ n / suc d * suc d + suc (n % suc d) = omega (arith, div-add-mod' n (suc d)) in
      (quotient_is (suc n) (suc d) (n / suc d) (suc (n % suc d)) e h, rest_is (suc n) (suc d) (n / suc d) (suc (n % suc d)) e h)

  next_row : suc d ≤ suc (n % suc d) → (suc n / suc d ≡ suc (n / suc d)) × (suc n % suc d ≡ 0)
  next_row h =
      let below : n % suc d < suc d = mod_below n (suc d) (omega arith) in
      let e : suc n ≡ suc (n / suc d) * suc d + 0 = omega (arith, div-add-mod' n (suc d)) in
      (quotient_is (suc n) (suc d) (suc (n / suc d)) 0 e (omega arith), rest_is (suc n) (suc d) (suc (n / suc d)) 0 e (omega arith))

  pub next_quotient : suc n % suc d ≢ 0 → (suc n / suc d ≡ n / suc d) × (suc n % suc d ≡ suc (n % suc d))
  next_quotient h = elim (cases_lt (suc (n % suc d)) (suc d)) [
    | inl below ↦ same_row below
    | inr above ↦ absurd (h (next_row above).1)
  ]

  pub next_whole : suc n % suc d ≡ 0 → (suc n / suc d ≡ suc (n / suc d)) × (n % suc d ≡ d)
  next_whole h = elim (cases_lt (suc (n % suc d)) (suc d)) [
    | inl below ↦ absurd (omega (arith, (same_row below).1))
    | inr above ↦ ((next_row above).0, (let below : n % suc d < suc d = mod_below n (suc d) (omega arith) in omega arith))
  ]

turned : (m n : ℕ) → m ≡ suc n → neg_ℤ (pos m) ≡ negsuc n
turned m n e = ap (λ k. neg_ℤ (pos k)) e

pub pos_same : (m n : ℕ) → pos m ≡ pos n → m ≡ n
pos_same m n e = cc

pub floor_down : (a b : ℤ) → b <ℤ pos 0 → int_rem_euclid a b ≢ pos 0 → int_div_euclid a b -ℤ pos 1 ≡ floor_quotient a b
floor_down (pos a) (pos b) below rest = absurd (omega (arith, ints))
floor_down (negsuc a) (pos b) below rest = absurd (omega (arith, ints))
floor_down (pos zero) (negsuc b) below rest = absurd (rest (ap pos (zero-mod (suc b))))
floor_down (pos (suc a)) (negsuc b) below rest =
    let next = next_quotient a b (λ e. rest (ap pos e)) in
    omega (arith, ints, next.0)
floor_down (negsuc a) (negsuc b) below rest =
    let next = next_quotient a b (λ e. rest (ap pos (omega (arith, next_whole a b e)))) in
    omega (arith, ints, next.0)

pub floor_same : (a b : ℤ) → (b <ℤ pos 0 → int_rem_euclid a b ≡ pos 0) → int_div_euclid a b ≡ floor_quotient a b
floor_same (pos a) (pos b) rest = refl
floor_same (negsuc a) (pos b) rest = refl
floor_same (pos zero) (negsuc b) rest = rw zero-div refl
floor_same (pos (suc a)) (negsuc b) rest =
    let next = next_whole a b (pos_same _ 0 (rest (omega (arith, ints)))) in
    turned _ _ next.0
floor_same (negsuc a) (negsuc b) rest =
    let left = pos_same _ 0 (rest (omega (arith, ints))) in
    ap pos (sym (next_row a b (omega (arith, left))).0)

-- what is left below a divisor
pub rest_down : (a b : ℤ) → b <ℤ pos 0 → int_rem_euclid a b ≢ pos 0 → int_rem_euclid a b +ℤ b ≡ floor_remainder a b
rest_down (pos a) (pos b) below rest = absurd (omega (arith, ints))
rest_down (negsuc a) (pos b) below rest = absurd (omega (arith, ints))
rest_down (pos zero) (negsuc b) below rest = absurd (rest (ap pos (zero-mod (suc b))))
rest_down (pos (suc a)) (negsuc b) below rest =
    let next = next_quotient a b (λ e. rest (ap pos e)) in
    omega (arith, ints, next.1, div-add-mod' a (suc b))
rest_down (negsuc a) (negsuc b) below rest =
    let next = next_quotient a b (λ e. rest (ap pos (omega (arith, next_whole a b e)))) in
    let below_divisor : a % suc b < suc b = mod_below a (suc b) (omega arith) in
    omega (arith, ints, next.1, div-add-mod' (suc a) (suc b))

pub rest_same : (a b : ℤ) → b ≢ pos 0 → (b <ℤ pos 0 → int_rem_euclid a b ≡ pos 0) → int_rem_euclid a b ≡ floor_remainder a b
rest_same (pos a) (pos b) some rest = omega (arith, ints, div-add-mod' a b)
rest_same (negsuc a) (pos zero) some rest = absurd (some refl)
rest_same (negsuc a) (pos (suc b)) some rest =
    let below_divisor : a % suc b < suc b = mod_below a (suc b) (omega arith) in
    omega (arith, ints, div-add-mod' a (suc b))
rest_same (pos zero) (negsuc b) some rest = omega (arith, ints, zero-mod (suc b))
rest_same (pos (suc a)) (negsuc b) some rest =
    let next = next_whole a b (pos_same _ 0 (rest (omega (arith, ints)))) in
    omega (arith, ints, next.1, pos_same _ 0 (rest (omega (arith, ints))), div-add-mod' a (suc b))
rest_same (negsuc a) (negsuc b) some rest =
    let left = pos_same _ 0 (rest (omega (arith, ints))) in
    let next = next_row a b (omega (arith, left)) in
    omega (arith, ints, left, next.1, div-add-mod' (suc a) (suc b))

-- what the code answers, from its own numbers
module _ (a b : ℤ) (fits_a : FitsSigned w128 a) (fits_b : FitsSigned w128 b) (divisor : of_z w128 b ≡ 0 → ⊥) where
  whole_bits : (f : ℤ → ℤ → ℤ) (y : ℤ) → y ≡ f (to_z w128 (of_z w128 a)) (to_z w128 (of_z w128 b)) → y ≡ f a b
  whole_bits f y e = e ∙ ap (λ z. f z (to_z w128 (of_z w128 b))) (kept a fits_a) ∙ ap (f a) (kept b fits_b)

  module _ (q : ℤ) (quotient : q ≡ int_div_euclid (to_z w128 (of_z w128 a)) (to_z w128 (of_z w128 b))) (fits_q : FitsSigned w128 q) where
    pub quotient_down : (r : ℤ) → r ≡ int_rem_euclid (to_z w128 (of_z w128 a)) (to_z w128 (of_z w128 b)) → int_lt (to_z w128 (of_z w128 b)) (pos 0) ≡ true → (of_z w128 r ≡ 0 → ⊥) → FitsSigned w128 (q -ℤ pos 1)
        → Value (to_z w128 (of_z w128 (to_z w128 (of_z w128 q) -ℤ pos 1))) ≡ divided b (floor_quotient a b)
    quotient_down r rest below some fits =
        ap Value (kept_less_one q fits_q fits)
        ∙ divided_value b _ (q -ℤ pos 1) (some_bits b divisor) fits
        (ap (λ z. z -ℤ pos 1) (whole_bits int_div_euclid q quotient)
        ∙ floor_down a b (below_zero b fits_b below) (λ e. some_bits r some (whole_bits int_rem_euclid r rest ∙ e)))

    pub quotient_same : (b <ℤ pos 0 → int_rem_euclid a b ≡ pos 0) → Value (to_z w128 (of_z w128 q)) ≡ divided b (floor_quotient a b)
    quotient_same rest =
        ap Value (kept q fits_q)
        ∙ divided_value b _ q (some_bits b divisor) fits_q (whole_bits int_div_euclid q quotient ∙ floor_same a b rest)

  module _ (r : ℤ) (rest : r ≡ int_rem_euclid (to_z w128 (of_z w128 a)) (to_z w128 (of_z w128 b))) (fits_r : FitsSigned w128 r) where
    pub nothing_left : of_z w128 r ≡ 0 → int_rem_euclid a b ≡ pos 0
    nothing_left e = sym (whole_bits int_rem_euclid r rest) ∙ zero_bits r fits_r e

    pub remainder_down : int_lt (to_z w128 (of_z w128 b)) (pos 0) ≡ true → (of_z w128 r ≡ 0 → ⊥) → FitsSigned w128 (r +ℤ b)
        → Value (to_z w128 (of_z w128 (to_z w128 (of_z w128 r) +ℤ to_z w128 (of_z w128 b)))) ≡ divided b (floor_remainder a b)
    remainder_down below some fits =
        ap Value (kept_sum r b fits_r fits_b fits)
        ∙ divided_value b _ (r +ℤ b) (some_bits b divisor) fits
        (ap (λ z. z +ℤ b) (whole_bits int_rem_euclid r rest)
        ∙ rest_down a b (below_zero b fits_b below) (λ e. some_bits r some (whole_bits int_rem_euclid r rest ∙ e)))

    pub remainder_same : (b <ℤ pos 0 → int_rem_euclid a b ≡ pos 0) → Value (to_z w128 (of_z w128 r)) ≡ divided b (floor_remainder a b)
    remainder_same left =
        ap Value (kept r fits_r)
        ∙ divided_value b _ r (some_bits b divisor) fits_r (whole_bits int_rem_euclid r rest ∙ rest_same a b (some_bits b divisor) left)
