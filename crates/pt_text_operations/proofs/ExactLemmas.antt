-- Integers that are of 128 bits or not.
use Rattle.std.proofs.Common.{◌≡◌, ℕ, zero, suc, ◌-◌, ◌<◌, ℤ, Bool, true, false, Option, Some, None, refl, ap, arith, if◌then◌else◌}
use Rattle.std.specs.Prelude.{FitsSigned, SomeIff}
use Rattle.std.specs.Int.{w128}
use Rattle.pt_ints.specs.Answer.{is_in_range}
use Rattle.pt_ints.proofs.RangeLemmas.{fits_from, out_from}
use Rattle.pt_heap.specs.declared.object.Range.{Range}
use Rattle.pt_text_operations.specs.Picked.{exact, standing, standing_before}

pub exact-some : (z : ℤ) (r : Option ℤ) → SomeIff r (FitsSigned w128 z) z → r ≡ exact z
exact-some z (Some x) h = by (is_in_range z) refl
  where
    by : (b : Bool) → is_in_range z ≡ b → Some x ≡ (if b then Some z else None)
    by true e = ap Some h.1
    by false e = absurd (out_from z e h.0)
exact-some z None h = by (is_in_range z) refl
  where
    by : (b : Bool) → is_in_range z ≡ b → None ≡ (if b then Some z else None)
    by true e = absurd (h (fits_from z e))
    by false e = refl

-- before a place there is one
pub before_some : (r : Range) (place : ℕ) → 0 < place → standing_before r place ≡ standing r (place - 1)
before_some r zero l = absurd (omega (arith, l))
before_some r (suc p) l = let same : p ≡ suc p - 1 = omega arith in ap (standing r) same
