-- What an operator answers at two integers.
use Rattle.std.specs.Prelude.{zero, suc, ◌^◌, ℤ, pos, negsuc, neg_ℤ, ◌+ℤ◌, ◌-ℤ◌, ◌*ℤ◌, Bool, nat_lt, if◌then◌else◌}
use Rattle.pt_base.specs.declared.operators.BinOp.{BinOp}
use Rattle.pt_base.specs.declared.operators.BinOp.TheVariants.{Add, Sub, Mul, Div, FloorDiv, Mod, Pow, BitAnd, BitOr, BitXor, LeftShift, RightShift}
use Rattle.pt_base.specs.declared.operators.UnOp.{UnOp}
use Rattle.pt_base.specs.declared.operators.UnOp.TheVariants.{Plus, Minus, Invert}
use Rattle.pt_ints.specs.declared.answer.IntAns.{IntAns}
use Rattle.pt_ints.specs.declared.answer.IntAns.TheVariants.{Value, ZeroDivide, NegativeShift, Float, Range}
use Rattle.pt_ints.specs.Integers.{floor_quotient, floor_remainder, power, inverted, common_bits, joined_bits, differing_bits}

-- -2^127 to 2^127 - 1
abbrev pub is_in_range : ℤ → Bool
is_in_range (pos n) = nat_lt n (2 ^ 127)
is_in_range (negsuc n) = nat_lt n (2 ^ 127)

-- the exact result, where it is in range
abbrev pub ranged : ℤ → IntAns
ranged z = if is_in_range z then Value z else Range

-- the same of a division
abbrev pub divided : (divisor : ℤ) → (exact : ℤ) → IntAns
divided (pos zero) z = ZeroDivide
divided (pos (suc b)) z = ranged z
divided (negsuc b) z = ranged z

abbrev pub binary_answer : BinOp → ℤ → ℤ → IntAns
binary_answer Add a b = ranged (a +ℤ b)
binary_answer Sub a b = ranged (a -ℤ b)
binary_answer Mul a b = ranged (a *ℤ b)
binary_answer Div a b = Float
binary_answer FloorDiv a b = divided b (floor_quotient a b)
binary_answer Mod a b = divided b (floor_remainder a b)
binary_answer Pow a (pos e) = ranged (power a e)
binary_answer Pow a (negsuc e) = Float
binary_answer BitAnd a b = ranged (common_bits a b)
binary_answer BitOr a b = ranged (joined_bits a b)
binary_answer BitXor a b = ranged (differing_bits a b)
binary_answer LeftShift a (pos k) = ranged (a *ℤ pos (2 ^ k))
binary_answer LeftShift a (negsuc k) = NegativeShift
binary_answer RightShift a (pos k) = ranged (floor_quotient a (pos (2 ^ k)))
binary_answer RightShift a (negsuc k) = NegativeShift

abbrev pub unary_answer : UnOp → ℤ → IntAns
unary_answer Plus a = ranged a
unary_answer Minus a = ranged (neg_ℤ a)
unary_answer Invert a = ranged (inverted a)
