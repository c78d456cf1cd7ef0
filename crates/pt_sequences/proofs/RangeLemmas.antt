-- The integers of a range lie between its start and its stop.
use Rattle.std.proofs.Common.{◌≡◌, ◌∙◌, ◌+◌, ◌*◌, ◌/◌, ◌<◌, ◌≤◌, ◌^◌, ℕ, zero, suc, ℤ, pos, negsuc, Bool, true, false, if◌then◌else◌, refl, sym, ap, subst, arith}
use Rattle.std.specs.Prelude.{◌+ℤ◌, ◌-ℤ◌, ◌*ℤ◌, ◌<ℤ◌, ◌≤ℤ◌, neg_ℤ, int_lt, unsigned_abs, FitsSigned, nat_lt, Some, None, Option}
use Rattle.std.specs.Int.{w128}
use Rattle.std.proofs.lemmas.Int.{ints}
use Rattle.std.proofs.Math.Nat.{le-div_iff_mul-le}
use Rattle.pt_heap.specs.declared.object.Range.{Range}
use Rattle.pt_sequences.specs.Ranges.{step_count, steps_within}

between-fits : (a b z : ℤ) → FitsSigned w128 a → FitsSigned w128 b → a ≤ℤ z → z <ℤ b → FitsSigned w128 z
between-fits a b (pos n) f g l k = record { sfits = by b g k }
  where
    by : (b : ℤ) → FitsSigned w128 b → pos n <ℤ b → n < 2 ^ 127
    by (pos m) g k = let below : n < m = omega (arith, ints) in omega (arith, below, g.sfits)
    by (negsuc m) g k = absurd (omega (arith, ints))
between-fits a b (negsuc n) f g l k = record { sfits = by a f l }
  where
    by : (a : ℤ) → FitsSigned w128 a → a ≤ℤ negsuc n → n < 2 ^ 127
    by (pos m) f l = absurd (omega (arith, ints))
    by (negsuc m) f l = let below : n ≤ m = omega (arith, ints) in omega (arith, below, f.sfits)

between-fits-above : (a b z : ℤ) → FitsSigned w128 a → FitsSigned w128 b → a <ℤ z → z ≤ℤ b → FitsSigned w128 z
between-fits-above a b (pos n) f g l k = record { sfits = by b g k }
  where
    by : (b : ℤ) → FitsSigned w128 b → pos n ≤ℤ b → n < 2 ^ 127
    by (pos m) g k = let below : n ≤ m = omega (arith, ints) in omega (arith, below, g.sfits)
    by (negsuc m) g k = absurd (omega (arith, ints))
between-fits-above a b (negsuc n) f g l k = record { sfits = by a f l }
  where
    by : (a : ℤ) → FitsSigned w128 a → a <ℤ negsuc n → n < 2 ^ 127
    by (pos m) f l = absurd (omega (arith, ints))
    by (negsuc m) f l = let below : n < m = omega (arith, ints) in omega (arith, below, f.sfits)

steps-below : (d s p : ℕ) → p < steps_within d (suc s) → p * suc s < d
steps-below zero s p l = absurd (omega (arith, l))
steps-below (suc e) s p l =
    let q : p ≤ e / suc s = omega (arith, l) in
    let m : p * suc s ≤ e = (le-div_iff_mul-le (omega arith)).0 q in
    omega (arith, m)

positive : (a b : ℤ) → a <ℤ b → b -ℤ a ≡ pos (unsigned_abs (b -ℤ a))
positive a b l = by (b -ℤ a) refl
  where
    by : (x : ℤ) → b -ℤ a ≡ x → x ≡ pos (unsigned_abs x)
    by (pos n) e = refl
    by (negsuc n) e = absurd (omega (arith, ints, e, l))

less : (a b : ℤ) → int_lt a b ≡ true → a <ℤ b
less a b e = grind (arith, ints)

-- an integer of a range is one of 128 bits
pub item-fits : (a b s : ℤ) (p : ℕ) → FitsSigned w128 a → FitsSigned w128 b → p < step_count a b s → FitsSigned w128 (a +ℤ (pos p *ℤ s))
item-fits a b (pos zero) p f g l = absurd (omega (arith, l))
item-fits a b (pos (suc s)) p f g l = by (int_lt a b) refl l
  where
    by : (t : Bool) → int_lt a b ≡ t → p < (if t then steps_within (unsigned_abs (b -ℤ a)) (suc s) else 0) → FitsSigned w128 (a +ℤ pos (p * suc s))
    by true e l =
        let m = steps-below (unsigned_abs (b -ℤ a)) s p l in
        let d = positive a b (less a b e) in
        between-fits a b (a +ℤ pos (p * suc s)) f g (omega (arith, ints)) (omega (arith, ints, m, d))
    by false e l = absurd (omega (arith, l))
item-fits a b (negsuc s) p f g l = by (int_lt b a) refl l
  where
    by : (t : Bool) → int_lt b a ≡ t → p < (if t then steps_within (unsigned_abs (a -ℤ b)) (suc s) else 0) → FitsSigned w128 (a +ℤ neg_ℤ (pos (p * suc s)))
    by true e l =
        let m = steps-below (unsigned_abs (a -ℤ b)) s p l in
        let d = positive b a (less b a e) in
        between-fits-above b a (a +ℤ neg_ℤ (pos (p * suc s))) g f (omega (arith, ints, m, d)) (omega (arith, ints))
    by false e l = absurd (omega (arith, l))
