-- The answers meet the law, and no others do.
use Rattle.std.proofs.Common.{◌≡◌, ◌≢◌, ℕ, zero, suc, ◌-◌, ◌*◌, ◌%◌, ◌^◌, ◌<◌, ℤ, pos, negsuc, refl, sym, ap, ◌∙◌, arith, inl, inr, subst}
use Rattle.std.specs.Prelude.{◌+ℤ◌, ◌-ℤ◌, ◌*ℤ◌, ◌⊎◌, FitsSigned}
use Rattle.std.specs.Int.{w128}
use Rattle.std.proofs.lemmas.Bool.{cases_Bool}
use Rattle.std.proofs.lemmas.Int.{ints}
use Rattle.std.proofs.lemmas.Nat.{div-add-mod', mod_below, pow_pos}
use Rattle.pt_base.specs.declared.operators.BinOp.{BinOp}
use Rattle.pt_base.specs.declared.operators.BinOp.TheVariants.{Add, Sub, Mul, Div, FloorDiv, Mod, Pow, BitAnd, BitOr, BitXor, LeftShift, RightShift}
use Rattle.pt_base.specs.declared.operators.UnOp.{UnOp}
use Rattle.pt_base.specs.declared.operators.UnOp.TheVariants.{Plus, Minus, Invert}
use Rattle.pt_ints.specs.declared.answer.IntAns.{IntAns}
use Rattle.pt_ints.specs.declared.answer.IntAns.TheVariants.{Value, ZeroDivide, NegativeShift, Float, Range}
use Rattle.pt_ints.specs.Answer.{is_in_range, ranged, divided, binary_answer, unary_answer}
use Rattle.pt_ints.specs.Integers.{floor_quotient, floor_remainder}
use Rattle.pt_ints.specs.Law.{IsRest, IsDivision, IsExact, IsExactUnary, DividesByZero, ShiftsBackwards, IsFractional, IsAnswer, IsUnaryAnswer}
use Rattle.pt_ints.proofs.BitLemmas.{bit-common, bit-joined, bit-differing, bit-inverted, same_bits}
use Rattle.pt_ints.proofs.DivisionLemmas.{quotient_is, pos_same}
use Rattle.pt_ints.proofs.RangeLemmas.{ranged_value, ranged_range, fits_from, out_from}

floor_rest : (a b : ℤ) → b ≢ pos 0 → IsRest b (floor_remainder a b)
floor_rest (pos a) (pos zero) some = absurd (some refl)
floor_rest (negsuc a) (pos zero) some = absurd (some refl)
floor_rest (pos a) (pos (suc b)) some =
    let is : floor_remainder (pos a) (pos (suc b)) ≡ pos (a % suc b) = omega (arith, ints, div-add-mod' a (suc b)) in
    let below : a % suc b < suc b = mod_below a (suc b) (omega arith) in
    (omega (arith, ints, is), omega (arith, ints, is, below))
floor_rest (negsuc a) (pos (suc b)) some =
    let below : a % suc b < suc b = mod_below a (suc b) (omega arith) in
    let is : floor_remainder (negsuc a) (pos (suc b)) ≡ pos (b - a % suc b) = omega (arith, ints, div-add-mod' a (suc b)) in
    (omega (arith, ints, is), omega (arith, ints, is, below))
floor_rest (pos zero) (negsuc b) some = (omega (arith, ints), omega (arith, ints))
floor_rest (pos (suc a)) (negsuc b) some =
    let below : a % suc b < suc b = mod_below a (suc b) (omega arith) in
    (omega (arith, ints, below, div-add-mod' a (suc b)), omega (arith, ints, below, div-add-mod' a (suc b)))
floor_rest (negsuc a) (negsuc b) some =
    let below : suc a % suc b < suc b = mod_below (suc a) (suc b) (omega arith) in
    (omega (arith, ints, below, div-add-mod' (suc a) (suc b)), omega (arith, ints, below, div-add-mod' (suc a) (suc b)))

put_back : (a c : ℤ) → a ≡ c +ℤ (a -ℤ c)
put_back a c = omega (arith, ints)

pub floor_division : (a b : ℤ) → b ≢ pos 0 → IsDivision a b (floor_quotient a b) (floor_remainder a b)
floor_division a b some = record { whole = put_back a (floor_quotient a b *ℤ b); below = floor_rest a b some }

nothing : (q b : ℕ) → q * suc b ≡ 0 → q ≡ 0
nothing zero b e = refl
nothing (suc q) b e = absurd (omega arith)

-- a division has no other quotient
quotient_only : (a b q r : ℤ) → a ≡ (q *ℤ b) +ℤ r → IsRest b r → q ≡ floor_quotient a b
quotient_only a (pos b) q (negsuc r) e h = absurd (omega (arith, ints, h.0))
quotient_only (pos a) (pos b) (pos q) (pos r) e h =
    ap pos (sym (quotient_is a b q r (omega (arith, ints, e)) (omega (arith, ints, h.1))))
quotient_only (negsuc a) (pos b) (pos q) (pos r) e h = absurd (omega (arith, ints, e))
quotient_only (pos a) (pos b) (negsuc q) (pos r) e h = absurd (omega (arith, ints, e, h.1))
quotient_only (negsuc a) (pos b) (negsuc q) (pos r) e h =
    ap negsuc (sym (quotient_is a b q (b - 1 - r) (omega (arith, ints, e, h.1)) (omega (arith, ints, h.1))))
quotient_only a (negsuc b) q (pos (suc r)) e h = absurd (omega (arith, ints, h.1))
quotient_only (pos zero) (negsuc b) (pos q) (pos zero) e h = ap pos (nothing q b (omega (arith, ints, e)))
quotient_only (pos zero) (negsuc b) (pos q) (negsuc r) e h = absurd (omega (arith, ints, e))
quotient_only (pos (suc a)) (negsuc b) (pos q) (pos zero) e h = absurd (omega (arith, ints, e))
quotient_only (pos (suc a)) (negsuc b) (pos q) (negsuc r) e h = absurd (omega (arith, ints, e))
quotient_only (negsuc a) (negsuc b) (pos q) (pos zero) e h =
    ap pos (sym (quotient_is (suc a) (suc b) q 0 (omega (arith, ints, e)) (omega arith)))
quotient_only (negsuc a) (negsuc b) (pos q) (negsuc r) e h =
    ap pos (sym (quotient_is (suc a) (suc b) q (suc r) (omega (arith, ints, e)) (omega (arith, ints, h.0))))
quotient_only (pos zero) (negsuc b) (negsuc q) (pos zero) e h = absurd (omega (arith, ints, e))
quotient_only (pos zero) (negsuc b) (negsuc q) (negsuc r) e h = absurd (omega (arith, ints, e, h.0))
quotient_only (pos (suc a)) (negsuc b) (negsuc q) (pos zero) e h =
    ap negsuc (sym (quotient_is a (suc b) q b (omega (arith, ints, e)) (omega arith)))
quotient_only (pos (suc a)) (negsuc b) (negsuc q) (negsuc r) e h =
    ap negsuc (sym (quotient_is a (suc b) q (b - suc r) (omega (arith, ints, e, h.0)) (omega arith)))
quotient_only (negsuc a) (negsuc b) (negsuc q) (pos zero) e h = absurd (omega (arith, ints, e))
quotient_only (negsuc a) (negsuc b) (negsuc q) (negsuc r) e h = absurd (omega (arith, ints, e, h.0))

left_over : (a c r : ℤ) → a ≡ c +ℤ r → r ≡ a -ℤ c
left_over a c r e = omega (arith, ints)

pub quotient_of : (a b q r : ℤ) → IsDivision a b q r → q ≡ floor_quotient a b
quotient_of a b q r d = quotient_only a b q r d.whole d.below

pub rest_of : (a b q r : ℤ) → IsDivision a b q r → r ≡ floor_remainder a b
rest_of a b q r d = left_over a (q *ℤ b) r d.whole ∙ ap (λ z. a -ℤ (z *ℤ b)) (quotient_of a b q r d)

-- in range or not, an exact result is answered by the law
in_or_out : (z : ℤ) → ((FitsSigned w128 z) × (ranged z ≡ Value z)) ⊎ ((FitsSigned w128 z → ⊥) × (ranged z ≡ Range))
in_or_out z = elim (cases_Bool (is_in_range z)) [
  | inl within ↦ (let f = fits_from z within in inl (f, sym (ranged_value z z f refl)))
  | inr out ↦ (let g : FitsSigned w128 z → ⊥ = out_from z out in inr (g, sym (ranged_range z g)))
]

exact_answer : (op : BinOp) (a b z : ℤ) → IsExact op a b z → IsAnswer op a b (ranged z)
exact_answer op a b z exact = elim (in_or_out z) [
  | inl within ↦ subst (IsAnswer op a b) (sym within.1) (exact, within.0)
  | inr out ↦ subst (IsAnswer op a b) (sym out.1) (z, exact, out.0)
]

exact_unary : (op : UnOp) (a z : ℤ) → IsExactUnary op a z → IsUnaryAnswer op a (ranged z)
exact_unary op a z exact = elim (in_or_out z) [
  | inl within ↦ subst (IsUnaryAnswer op a) (sym within.1) (exact, within.0)
  | inr out ↦ subst (IsUnaryAnswer op a) (sym out.1) (z, exact, out.0)
]

divided_law : (op : BinOp) (a b z : ℤ) → (b ≡ pos 0 → DividesByZero op b) → (b ≢ pos 0 → IsExact op a b z) → IsAnswer op a b (divided b z)
divided_law op a (pos zero) z by_zero exact = by_zero refl
divided_law op a (pos (suc b)) z by_zero exact = exact_answer op a (pos (suc b)) z (exact (λ e. cc))
divided_law op a (negsuc b) z by_zero exact = exact_answer op a (negsuc b) z (exact (λ e. cc))

some_power : (k : ℕ) → pos (2 ^ k) ≢ pos 0
some_power k e = omega (arith, pow_pos k, pos_same _ _ e)

pub binary_law : (op : BinOp) (a b : ℤ) → IsAnswer op a b (binary_answer op a b)
binary_law Add a b = exact_answer Add a b _ refl
binary_law Sub a b = exact_answer Sub a b _ refl
binary_law Mul a b = exact_answer Mul a b _ refl
binary_law Div a b = tt
binary_law FloorDiv a b = divided_law FloorDiv a b _ (λ e. e) (λ some. (floor_remainder a b, floor_division a b some))
binary_law Mod a b = divided_law Mod a b _ (λ e. e) (λ some. (floor_quotient a b, floor_division a b some))
binary_law Pow a (pos e) = exact_answer Pow a (pos e) _ refl
binary_law Pow a (negsuc e) = omega (arith, ints)
binary_law BitAnd a b = exact_answer BitAnd a b _ (bit-common a b)
binary_law BitOr a b = exact_answer BitOr a b _ (bit-joined a b)
binary_law BitXor a b = exact_answer BitXor a b _ (bit-differing a b)
binary_law LeftShift a (pos k) = exact_answer LeftShift a (pos k) _ refl
binary_law LeftShift a (negsuc k) = omega (arith, ints)
binary_law RightShift a (pos k) = exact_answer RightShift a (pos k) _ (floor_remainder a (pos (2 ^ k)), floor_division a (pos (2 ^ k)) (some_power k))
binary_law RightShift a (negsuc k) = omega (arith, ints)

pub unary_law : (op : UnOp) (a : ℤ) → IsUnaryAnswer op a (unary_answer op a)
unary_law Plus a = exact_unary Plus a a refl
unary_law Minus a = exact_unary Minus a _ refl
unary_law Invert a = exact_unary Invert a _ (bit-inverted a)

-- an operator has one exact result at most
exact_only : (op : BinOp) (a b y z : ℤ) → IsExact op a b y → IsExact op a b z → y ≡ z
exact_only Add a b y z p q = p ∙ sym q
exact_only Sub a b y z p q = p ∙ sym q
exact_only Mul a b y z p q = p ∙ sym q
exact_only Div a b y z p q = absurd p
exact_only FloorDiv a b y z p q = quotient_of a b y p.0 p.1 ∙ sym (quotient_of a b z q.0 q.1)
exact_only Mod a b y z p q = rest_of a b p.0 y p.1 ∙ sym (rest_of a b q.0 z q.1)
exact_only Pow a (pos e) y z p q = p ∙ sym q
exact_only Pow a (negsuc e) y z p q = absurd p
exact_only BitAnd a b y z p q = same_bits y z (λ k. p k ∙ sym (q k))
exact_only BitOr a b y z p q = same_bits y z (λ k. p k ∙ sym (q k))
exact_only BitXor a b y z p q = same_bits y z (λ k. p k ∙ sym (q k))
exact_only LeftShift a (pos k) y z p q = p ∙ sym q
exact_only LeftShift a (negsuc k) y z p q = absurd p
exact_only RightShift a (pos k) y z p q = quotient_of a (pos (2 ^ k)) y p.0 p.1 ∙ sym (quotient_of a (pos (2 ^ k)) z q.0 q.1)
exact_only RightShift a (negsuc k) y z p q = absurd p

nothing_by_zero : (a q r : ℤ) → IsDivision a (pos 0) q r → ⊥
nothing_by_zero a q r d = omega (arith, ints, d.below.0, d.below.1)

-- where another answer is due there is no exact result
none_by_zero : (op : BinOp) (a b z : ℤ) → DividesByZero op b → IsExact op a b z → ⊥
none_by_zero FloorDiv a b z e p = nothing_by_zero a z p.0 (subst (λ d. IsDivision a d z p.0) e p.1)
none_by_zero Mod a b z e p = nothing_by_zero a p.0 z (subst (λ d. IsDivision a d p.0 z) e p.1)
none_by_zero _ a b z e p = e

none_backwards : (op : BinOp) (a b z : ℤ) → ShiftsBackwards op b → IsExact op a b z → ⊥
none_backwards LeftShift a (pos k) z e p = omega (arith, ints)
none_backwards LeftShift a (negsuc k) z e p = p
none_backwards RightShift a (pos k) z e p = omega (arith, ints)
none_backwards RightShift a (negsuc k) z e p = p
none_backwards _ a b z e p = e

none_fractional : (op : BinOp) (a b z : ℤ) → IsFractional op b → IsExact op a b z → ⊥
none_fractional Div a b z e p = p
none_fractional Pow a (pos k) z e p = omega (arith, ints)
none_fractional Pow a (negsuc k) z e p = p
none_fractional _ a b z e p = e

zero_no_shift : (op : BinOp) (b : ℤ) → DividesByZero op b → ShiftsBackwards op b → ⊥
zero_no_shift FloorDiv b p q = q
zero_no_shift Mod b p q = q
zero_no_shift _ b p q = p

zero_no_fraction : (op : BinOp) (b : ℤ) → DividesByZero op b → IsFractional op b → ⊥
zero_no_fraction FloorDiv b p q = q
zero_no_fraction Mod b p q = q
zero_no_fraction _ b p q = p

shift_no_fraction : (op : BinOp) (b : ℤ) → ShiftsBackwards op b → IsFractional op b → ⊥
shift_no_fraction LeftShift b p q = q
shift_no_fraction RightShift b p q = q
shift_no_fraction _ b p q = p

-- the law leaves one answer
pub one_answer : (op : BinOp) (a b : ℤ) (x y : IntAns) → IsAnswer op a b x → IsAnswer op a b y → x ≡ y
one_answer op a b (Value x) (Value y) p q = ap Value (exact_only op a b x y p.0 q.0)
one_answer op a b (Value x) Range p q = absurd (q.2 (subst (FitsSigned w128) (exact_only op a b x q.0 p.0 q.1) p.1))
one_answer op a b (Value x) ZeroDivide p q = absurd (none_by_zero op a b x q p.0)
one_answer op a b (Value x) NegativeShift p q = absurd (none_backwards op a b x q p.0)
one_answer op a b (Value x) Float p q = absurd (none_fractional op a b x q p.0)
one_answer op a b Range (Value y) p q = absurd (p.2 (subst (FitsSigned w128) (exact_only op a b y p.0 q.0 p.1) q.1))
one_answer op a b Range Range p q = refl
one_answer op a b Range ZeroDivide p q = absurd (none_by_zero op a b p.0 q p.1)
one_answer op a b Range NegativeShift p q = absurd (none_backwards op a b p.0 q p.1)
one_answer op a b Range Float p q = absurd (none_fractional op a b p.0 q p.1)
one_answer op a b ZeroDivide (Value y) p q = absurd (none_by_zero op a b y p q.0)
one_answer op a b ZeroDivide Range p q = absurd (none_by_zero op a b q.0 p q.1)
one_answer op a b ZeroDivide ZeroDivide p q = refl
one_answer op a b ZeroDivide NegativeShift p q = absurd (zero_no_shift op b p q)
one_answer op a b ZeroDivide Float p q = absurd (zero_no_fraction op b p q)
one_answer op a b NegativeShift (Value y) p q = absurd (none_backwards op a b y p q.0)
one_answer op a b NegativeShift Range p q = absurd (none_backwards op a b q.0 p q.1)
one_answer op a b NegativeShift ZeroDivide p q = absurd (zero_no_shift op b q p)
one_answer op a b NegativeShift NegativeShift p q = refl
one_answer op a b NegativeShift Float p q = absurd (shift_no_fraction op b p q)
one_answer op a b Float (Value y) p q = absurd (none_fractional op a b y p q.0)
one_answer op a b Float Range p q = absurd (none_fractional op a b q.0 p q.1)
one_answer op a b Float ZeroDivide p q = absurd (zero_no_fraction op b q p)
one_answer op a b Float NegativeShift p q = absurd (shift_no_fraction op b q p)
one_answer op a b Float Float p q = refl

-- it is the one that the function of the operators has
pub answer_by_law : (op : BinOp) (a b : ℤ) (x : IntAns) → IsAnswer op a b x → x ≡ binary_answer op a b
answer_by_law op a b x p = one_answer op a b x (binary_answer op a b) p (binary_law op a b)

pub lawful : (op : BinOp) (a b : ℤ) (x : IntAns) → x ≡ binary_answer op a b → IsAnswer op a b x
lawful op a b x e = subst (IsAnswer op a b) (sym e) (binary_law op a b)

pub lawful_unary : (op : UnOp) (a : ℤ) (x : IntAns) → x ≡ unary_answer op a → IsUnaryAnswer op a x
lawful_unary op a x e = subst (IsUnaryAnswer op a) (sym e) (unary_law op a)

exact_unary_only : (op : UnOp) (a y z : ℤ) → IsExactUnary op a y → IsExactUnary op a z → y ≡ z
exact_unary_only Plus a y z p q = p ∙ sym q
exact_unary_only Minus a y z p q = p ∙ sym q
exact_unary_only Invert a y z p q = same_bits y z (λ k. p k ∙ sym (q k))

pub one_unary_answer : (op : UnOp) (a : ℤ) (x y : IntAns) → IsUnaryAnswer op a x → IsUnaryAnswer op a y → x ≡ y
one_unary_answer op a (Value x) (Value y) p q = ap Value (exact_unary_only op a x y p.0 q.0)
one_unary_answer op a (Value x) Range p q = absurd (q.2 (subst (FitsSigned w128) (exact_unary_only op a x q.0 p.0 q.1) p.1))
one_unary_answer op a Range (Value y) p q = absurd (p.2 (subst (FitsSigned w128) (exact_unary_only op a y p.0 q.0 p.1) q.1))
one_unary_answer op a Range Range p q = refl
one_unary_answer op a (Value x) _ p q = absurd q
one_unary_answer op a Range _ p q = absurd q
one_unary_answer op a _ y p q = absurd p
