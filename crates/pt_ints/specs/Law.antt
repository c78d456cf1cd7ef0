-- Which integer is the exact result of an operator, and which answer each operator gives.
use Rattle.std.specs.Prelude.{◌≡◌, ℕ, ◌+◌, ◌-◌, ◌%◌, ◌^◌, ℤ, pos, negsuc, neg_ℤ, ◌+ℤ◌, ◌-ℤ◌, ◌*ℤ◌, ◌≤ℤ◌, ◌<ℤ◌, min, max, FitsSigned}
use Rattle.std.specs.Int.{w128}
use Rattle.pt_base.specs.declared.operators.BinOp.{BinOp}
use Rattle.pt_base.specs.declared.operators.BinOp.TheVariants.{Add, Sub, Mul, Div, FloorDiv, Mod, Pow, BitAnd, BitOr, BitXor, LeftShift, RightShift}
use Rattle.pt_base.specs.declared.operators.UnOp.{UnOp}
use Rattle.pt_base.specs.declared.operators.UnOp.TheVariants.{Plus, Minus, Invert}
use Rattle.pt_ints.specs.declared.answer.IntAns.{IntAns}
use Rattle.pt_ints.specs.declared.answer.IntAns.TheVariants.{Value, ZeroDivide, NegativeShift, Float, Range}
use Rattle.pt_ints.specs.Integers.{power, bit}

-- what may be left of a division: it is smaller than the divisor, and has its sign or is 0. Of a division by 0
-- nothing may be left
abbrev pub IsRest : (divisor rest : ℤ) → Type 0
IsRest (pos b) r = (pos 0 ≤ℤ r) × (r <ℤ pos b)
IsRest (negsuc b) r = (negsuc b <ℤ r) × (r ≤ℤ pos 0)

-- quotient and remainder (Language Reference 6.7)
pub record IsDivision (dividend divisor quotient rest : ℤ) : Type 0 where
  pub whole : dividend ≡ (quotient *ℤ divisor) +ℤ rest
  pub below : IsRest divisor rest

-- each bit of the result comes from those of the operands
abbrev pub IsBitwise : (ℕ → ℕ → ℕ) → (a b exact : ℤ) → Type 0
IsBitwise f a b z = (k : ℕ) → bit z k ≡ f (bit a k) (bit b k)

-- the result, without bound; an operator that answers no integer there has none
abbrev pub IsExact : BinOp → (a b exact : ℤ) → Type 0
IsExact Add a b z = z ≡ a +ℤ b
IsExact Sub a b z = z ≡ a -ℤ b
IsExact Mul a b z = z ≡ a *ℤ b
IsExact Div a b z = ⊥
IsExact FloorDiv a b z = (rest : ℤ) × IsDivision a b z rest
IsExact Mod a b z = (quotient : ℤ) × IsDivision a b quotient z
IsExact Pow a (pos e) z = z ≡ power a e
IsExact Pow a (negsuc e) z = ⊥
IsExact BitAnd a b z = IsBitwise min a b z
IsExact BitOr a b z = IsBitwise max a b z
IsExact BitXor a b z = IsBitwise (λ x y. (x + y) % 2) a b z
IsExact LeftShift a (pos k) z = z ≡ a *ℤ pos (2 ^ k)
IsExact LeftShift a (negsuc k) z = ⊥
IsExact RightShift a (pos k) z = (rest : ℤ) × IsDivision a (pos (2 ^ k)) z rest
IsExact RightShift a (negsuc k) z = ⊥

abbrev pub IsExactUnary : UnOp → (a exact : ℤ) → Type 0
IsExactUnary Plus a z = z ≡ a
IsExactUnary Minus a z = z ≡ neg_ℤ a
IsExactUnary Invert a z = (k : ℕ) → bit z k ≡ 1 - bit a k

abbrev pub DividesByZero : BinOp → (b : ℤ) → Type 0
DividesByZero FloorDiv b = b ≡ pos 0
DividesByZero Mod b = b ≡ pos 0
DividesByZero _ b = ⊥

abbrev pub ShiftsBackwards : BinOp → (b : ℤ) → Type 0
ShiftsBackwards LeftShift b = b <ℤ pos 0
ShiftsBackwards RightShift b = b <ℤ pos 0
ShiftsBackwards _ b = ⊥

abbrev pub IsFractional : BinOp → (b : ℤ) → Type 0
IsFractional Div b = Unit {0}
IsFractional Pow b = b <ℤ pos 0
IsFractional _ b = ⊥

abbrev pub IsAnswer : BinOp → (a b : ℤ) → IntAns → Type 0
IsAnswer op a b (Value z) = IsExact op a b z × FitsSigned w128 z
IsAnswer op a b ZeroDivide = DividesByZero op b
IsAnswer op a b NegativeShift = ShiftsBackwards op b
IsAnswer op a b Float = IsFractional op b
IsAnswer op a b Range = (z : ℤ) × IsExact op a b z × (FitsSigned w128 z → ⊥)

abbrev pub IsUnaryAnswer : UnOp → (a : ℤ) → IntAns → Type 0
IsUnaryAnswer op a (Value z) = IsExactUnary op a z × FitsSigned w128 z
IsUnaryAnswer op a Range = (z : ℤ) × IsExactUnary op a z × (FitsSigned w128 z → ⊥)
IsUnaryAnswer op a _ = ⊥
