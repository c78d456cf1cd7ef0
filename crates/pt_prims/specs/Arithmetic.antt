-- What unary and binary operators give of numbers, and of operands that they don't take (Language Reference 6.5 to 6.9).
use Rattle.std.specs.Prelude.{Bool, false, not, ◌&&◌, ◌||◌, List, codes, if◌then◌else◌}
use Rattle.pt_base.specs.declared.operators.BinOp.{BinOp}
use Rattle.pt_base.specs.declared.operators.BinOp.TheVariants.{BitAnd, BitOr, BitXor}
use Rattle.pt_base.specs.declared.operators.UnOp.{UnOp}
use Rattle.pt_base.specs.declared.what.What.TheVariants.{Integer, Float}
use Rattle.pt_heap.specs.declared.value.Value.{Value}
use Rattle.pt_heap.specs.declared.value.Value.TheVariants as value
use Rattle.pt_heap.specs.declared.object.Object.{Object}
use Rattle.pt_ints.specs.declared.answer.IntAns.{IntAns}
use Rattle.pt_ints.specs.declared.answer.IntAns.TheVariants as integer
use Rattle.pt_ints.specs.Answer.{binary_answer, unary_answer}
use Rattle.pt_content.specs.pt_attrs.pt_dicts.Keys.{truth}
use Rattle.pt_content.specs.declared.operand.Operand.{Operand}
use Rattle.pt_content.specs.declared.operand.Operand.TheVariants as operand
use Rattle.pt_content.specs.declared.answer.Helper.TheVariants.{BinaryOf}
use Rattle.pt_content.specs.declared.answer.Operator.TheVariants.{Binary}
use Rattle.pt_content.specs.declared.content.Content.{Content}
use Rattle.pt_content.specs.declared.content.Content.TheVariants as content
use Rattle.pt_content.specs.declared.class.TheConstants.{ZERO_DIVISION_ERROR, VALUE_ERROR}
use Rattle.pt_content.specs.Operands.{operand_of}
use Rattle.pt_content.specs.TypeErrors.{unary_type_error}
use Rattle.pt_prims.specs.Sequences.{sequences_binary}

-- an exact result, an error, or what integers of 128 bits don't have
abbrev pub integer_content : IntAns → Content
integer_content (integer.Value z) = content.Value (value.Int z)
integer_content integer.ZeroDivide = content.Raise ZERO_DIVISION_ERROR (codes "division by zero")
integer_content integer.NegativeShift = content.Raise VALUE_ERROR (codes "negative shift count")
integer_content integer.Float = content.Outside Float
integer_content integer.Range = content.Outside Integer

-- `& | ^` of two truth values give a truth value; else they are 0 and 1
abbrev pub truths_binary : BinOp → Bool → Bool → Content
truths_binary BitAnd a b = content.Value (value.Bool (a && b))
truths_binary BitOr a b = content.Value (value.Bool (a || b))
truths_binary BitXor a b = content.Value (value.Bool (if a then not b else b))
truths_binary op a b = integer_content (binary_answer op (truth a) (truth b))

-- by what the operands are
abbrev pub binary_by : BinOp → List Object → Value → Value → Operand → Operand → Content
binary_by op h a b operand.Instance k = content.Help (BinaryOf (Binary op)) false
binary_by op h a b k operand.Instance = content.Help (BinaryOf (Binary op)) false
binary_by op h a b (operand.Number x) (operand.Number y) = integer_content (binary_answer op x y)
binary_by op h a b k l = sequences_binary op h a b

abbrev pub operands_binary : BinOp → List Object → Value → Value → Content
operands_binary op h a b = binary_by op h a b (operand_of h a) (operand_of h b)

-- a truth value and another operand
abbrev pub truth_binary : BinOp → List Object → Bool → Value → Content
truth_binary op h a (value.Bool b) = truths_binary op a b
truth_binary op h a b = operands_binary op h (value.Bool a) b

abbrev pub binary_content : BinOp → List Object → Value → Value → Content
binary_content op h (value.Bool a) b = truth_binary op h a b
binary_content op h a b = operands_binary op h a b

abbrev pub unary_by : UnOp → List Object → Value → Operand → Content
unary_by op h a (operand.Number x) = integer_content (unary_answer op x)
unary_by op h a k = unary_type_error op h a

abbrev pub unary_content : UnOp → List Object → Value → Content
unary_content op h a = unary_by op h a (operand_of h a)
