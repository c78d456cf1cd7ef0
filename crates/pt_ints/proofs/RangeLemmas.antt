-- Results that are in range.
use Rattle.std.proofs.Common.{◌≡◌, ◌≢◌, ℕ, zero, suc, ◌-◌, ◌^◌, ◌<◌, ◌≤◌, ℤ, pos, negsuc, refl, sym, ap, ◌∙◌, arith, inl, inr, lt-ltb, le-ltb, ltb-true, to_z, of_z}
use Rattle.std.specs.Prelude.{◌+ℤ◌, ◌-ℤ◌, ◌<ℤ◌, FitsSigned, true, false, int_lt}
use Rattle.std.specs.Int.{w128}
use Rattle.std.proofs.lemmas.Bool.{cases_lt, false≢true}
use Rattle.std.proofs.lemmas.Int.{ints, to_z-of_z}
use Rattle.pt_ints.specs.declared.answer.IntAns.TheVariants.{Value, Range}
use Rattle.pt_ints.specs.Answer.{is_in_range, ranged, divided}

in_range : (z : ℤ) → FitsSigned w128 z → is_in_range z ≡ true
in_range (pos n) f = lt-ltb n (2 ^ 127) f.sfits
in_range (negsuc n) f = lt-ltb n (2 ^ 127) f.sfits

beyond : (n : ℕ) → (n < 2 ^ 127 → ⊥) → 2 ^ 127 ≤ n
beyond n h = elim (cases_lt n (2 ^ 127)) [ inl below ↦ absurd (h below) | inr above ↦ above ]

pub fits_from : (z : ℤ) → is_in_range z ≡ true → FitsSigned w128 z
fits_from (pos n) e = record { sfits = ltb-true n (2 ^ 127) e }
fits_from (negsuc n) e = record { sfits = ltb-true n (2 ^ 127) e }

pub out_from : (z : ℤ) → is_in_range z ≡ false → FitsSigned w128 z → ⊥
out_from z e f = false≢true (sym e ∙ in_range z f)

pub ranged_value : (z v : ℤ) → FitsSigned w128 v → v ≡ z → Value v ≡ ranged z
ranged_value z v f e = rw (← e, in_range v f) refl

pub ranged_range : (z : ℤ) → (FitsSigned w128 z → ⊥) → Range ≡ ranged z
ranged_range (pos n) out = rw (le-ltb n (2 ^ 127) (beyond n (λ h. out record { sfits = h }))) refl
ranged_range (negsuc n) out = rw (le-ltb n (2 ^ 127) (beyond n (λ h. out record { sfits = h }))) refl

pub divided_value : (b z v : ℤ) → b ≢ pos 0 → FitsSigned w128 v → v ≡ z → Value v ≡ divided b z
divided_value (pos zero) z v some f e = absurd (some refl)
divided_value (pos (suc b)) z v some f e = ranged_value z v f e
divided_value (negsuc b) z v some f e = ranged_value z v f e

-- a number that fits its type, through its bits and back
pub kept : (z : ℤ) → FitsSigned w128 z → to_z w128 (of_z w128 z) ≡ z
kept z f = to_z-of_z w128 z f

pub kept_less_one : (z : ℤ) → FitsSigned w128 z → FitsSigned w128 (z -ℤ pos 1) → to_z w128 (of_z w128 (to_z w128 (of_z w128 z) -ℤ pos 1)) ≡ z -ℤ pos 1
kept_less_one z f g = ap (λ y. to_z w128 (of_z w128 (y -ℤ pos 1))) (kept z f) ∙ kept (z -ℤ pos 1) g

pub kept_sum : (a b : ℤ) → FitsSigned w128 a → FitsSigned w128 b → FitsSigned w128 (a +ℤ b) → to_z w128 (of_z w128 (to_z w128 (of_z w128 a) +ℤ to_z w128 (of_z w128 b))) ≡ a +ℤ b
kept_sum a b f g h = ap (λ y. to_z w128 (of_z w128 (y +ℤ to_z w128 (of_z w128 b)))) (kept a f) ∙ ap (λ y. to_z w128 (of_z w128 (a +ℤ y))) (kept b g) ∙ kept (a +ℤ b) h

-- tests of a number that fits its type, as they compare its bits
pub zero_bits : (z : ℤ) → FitsSigned w128 z → of_z w128 z ≡ 0 → z ≡ pos 0
zero_bits (pos n) f e = ap pos e
zero_bits (negsuc n) f e = absurd (omega (arith, f.sfits))

pub one_bits : (z : ℤ) → FitsSigned w128 z → of_z w128 z ≡ 1 → z ≡ pos 1
one_bits (pos n) f e = ap pos e
one_bits (negsuc n) f e = absurd (omega (arith, f.sfits))

pub minus_one_bits : (z : ℤ) → FitsSigned w128 z → of_z w128 z ≡ 2 ^ 128 - 1 → z ≡ negsuc 0
minus_one_bits (pos n) f e = absurd (omega (arith, f.sfits))
minus_one_bits (negsuc n) f e = ap negsuc (omega (arith, f.sfits))

pub some_bits : (z : ℤ) → (of_z w128 z ≡ 0 → ⊥) → z ≢ pos 0
some_bits z h e = h (ap (of_z w128) e)

pub below_zero : (z : ℤ) → FitsSigned w128 z → int_lt (to_z w128 (of_z w128 z)) (pos 0) ≡ true → z <ℤ pos 0
below_zero z f e = grind (arith, ints, kept z f)

pub from_zero : (z : ℤ) → FitsSigned w128 z → int_lt (to_z w128 (of_z w128 z)) (pos 0) ≡ false → z <ℤ pos 0 → ⊥
from_zero z f e h = grind (arith, ints, kept z f)

-- each number but 0, 1 and -1 has other bits than these
pub not_one : (z : ℤ) → (of_z w128 z ≡ 1 → ⊥) → z ≢ pos 1
not_one z h e = h (ap (of_z w128) e)

pub not_minus_one : (z : ℤ) → (of_z w128 z ≡ 2 ^ 128 - 1 → ⊥) → z ≢ negsuc 0
not_minus_one z h e = h (ap (of_z w128) e)
