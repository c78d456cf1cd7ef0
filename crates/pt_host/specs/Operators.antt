-- The special methods of operators (Language Reference 3.3.1, 3.3.8): that of the first operand, the reflected one of the second, and the sign.
use Rattle.std.specs.Prelude.{ℕ, List, ◌++◌, codes}
use Rattle.pt_base.specs.declared.operators.BinOp.{BinOp}
use Rattle.pt_base.specs.declared.operators.BinOp.TheVariants as binary
use Rattle.pt_base.specs.declared.operators.CompareOp.{CompareOp}
use Rattle.pt_base.specs.declared.operators.CompareOp.TheVariants as comparison
use Rattle.pt_base.specs.declared.operators.UnOp.{UnOp}
use Rattle.pt_base.specs.declared.operators.UnOp.TheVariants as unary
use Rattle.pt_content.specs.TypeErrors.{binary_sign, comparison_sign}
use Rattle.pt_content.specs.declared.answer.Operator.{Operator}
use Rattle.pt_content.specs.declared.answer.Operator.TheVariants as operator

abbrev pub word_of : BinOp → List ℕ
word_of binary.Add = codes "add"
word_of binary.Sub = codes "sub"
word_of binary.Mul = codes "mul"
word_of binary.Div = codes "truediv"
word_of binary.FloorDiv = codes "floordiv"
word_of binary.Mod = codes "mod"
word_of binary.Pow = codes "pow"
word_of binary.BitAnd = codes "and"
word_of binary.BitOr = codes "or"
word_of binary.BitXor = codes "xor"
word_of binary.LeftShift = codes "lshift"
word_of binary.RightShift = codes "rshift"

abbrev pub comparison_name : CompareOp → List ℕ
comparison_name comparison.Less = codes "__lt__"
comparison_name comparison.LessEqual = codes "__le__"
comparison_name comparison.Greater = codes "__gt__"
comparison_name comparison.GreaterEqual = codes "__ge__"
comparison_name comparison.Equal = codes "__eq__"
comparison_name comparison.NotEqual = codes "__ne__"
comparison_name o = codes ""

-- the other way round
abbrev pub turned_comparison : CompareOp → CompareOp
turned_comparison comparison.Less = comparison.Greater
turned_comparison comparison.LessEqual = comparison.GreaterEqual
turned_comparison comparison.Greater = comparison.Less
turned_comparison comparison.GreaterEqual = comparison.LessEqual
turned_comparison o = o

abbrev pub method_name : Operator → List ℕ
method_name (operator.Binary o) = codes "__" ++ (word_of o ++ codes "__")
method_name (operator.Compare o) = comparison_name o

abbrev pub reflected_name : Operator → List ℕ
reflected_name (operator.Binary o) = codes "__r" ++ (word_of o ++ codes "__")
reflected_name (operator.Compare o) = comparison_name (turned_comparison o)

abbrev pub sign_of : Operator → List ℕ
sign_of (operator.Binary o) = binary_sign o
sign_of (operator.Compare o) = comparison_sign o

abbrev pub unary_name : UnOp → List ℕ
unary_name unary.Plus = codes "__pos__"
unary_name unary.Minus = codes "__neg__"
unary_name unary.Invert = codes "__invert__"
