-- What operators say of operands that they don't take (Language Reference 3.3.8, 6.6 to 6.10), in CPython's words.
use Rattle.std.specs.Prelude.{ℕ, List, [], ◌∷◌, ◌++◌, codes}
use Rattle.pt_base.specs.declared.operators.BinOp.{BinOp}
use Rattle.pt_base.specs.declared.operators.BinOp.TheVariants as binary
use Rattle.pt_base.specs.declared.operators.UnOp.{UnOp}
use Rattle.pt_base.specs.declared.operators.UnOp.TheVariants as unary
use Rattle.pt_base.specs.declared.operators.CompareOp.{CompareOp}
use Rattle.pt_base.specs.declared.operators.CompareOp.TheVariants as comparison
use Rattle.pt_base.specs.declared.numbers.ObjId.{ObjId}
use Rattle.pt_heap.specs.declared.value.Value.{Value}
use Rattle.pt_heap.specs.declared.object.Object.{Object}
use Rattle.pt_content.specs.declared.content.Content.{Content}
use Rattle.pt_content.specs.declared.content.Content.TheVariants.{Raise}
use Rattle.pt_content.specs.declared.class.TheConstants.{TYPE_ERROR}
use Rattle.pt_content.specs.Classes.{class_name}

abbrev pub binary_sign : BinOp → List ℕ
binary_sign binary.Add = codes "+"
binary_sign binary.Sub = codes "-"
binary_sign binary.Mul = codes "*"
binary_sign binary.Div = codes "/"
binary_sign binary.FloorDiv = codes "//"
binary_sign binary.Mod = codes "%"
binary_sign binary.Pow = codes "**"
binary_sign binary.BitAnd = codes "&"
binary_sign binary.BitOr = codes "|"
binary_sign binary.BitXor = codes "^"
binary_sign binary.LeftShift = codes "<<"
binary_sign binary.RightShift = codes ">>"

abbrev pub unary_sign : UnOp → List ℕ
unary_sign unary.Plus = codes "+"
unary_sign unary.Minus = codes "-"
unary_sign unary.Invert = codes "~"

abbrev pub comparison_sign : CompareOp → List ℕ
comparison_sign comparison.Less = codes "<"
comparison_sign comparison.LessEqual = codes "<="
comparison_sign comparison.Greater = codes ">"
comparison_sign comparison.GreaterEqual = codes ">="
comparison_sign comparison.Equal = codes "=="
comparison_sign comparison.NotEqual = codes "!="
comparison_sign comparison.In = codes "in"
comparison_sign comparison.NotIn = codes "not in"
comparison_sign comparison.Is = codes "is"
comparison_sign comparison.IsNot = codes "is not"

abbrev pub sentence : (parts : List (List ℕ)) → List ℕ
sentence [] = []
sentence (p ∷ ps) = p ++ sentence ps

-- an operator between two texts, the classes of its operands and a quote
abbrev pub error_of_one : (before sign behind class : List ℕ) → Content
error_of_one before sign behind c = Raise TYPE_ERROR (sentence (before ∷ sign ∷ behind ∷ c ∷ codes "'" ∷ []))

abbrev pub error_of_two : (before sign behind first second : List ℕ) → Content
error_of_two before sign behind a b =
    Raise TYPE_ERROR (sentence (before ∷ sign ∷ behind ∷ a ∷ codes "' and '" ∷ b ∷ codes "'" ∷ []))

-- an argument that a call doesn't take: a TypeError for a wrong class, else a ValueError
abbrev pub bad_argument : (class : ObjId) → Content
bad_argument class = Raise class (codes "bad argument")

-- a value isn't what it is used as: callable, iterable, subscriptable, an iterator
abbrev pub use_type_error : List Object → Value → (what : List ℕ) → Content
use_type_error h v what =
    Raise TYPE_ERROR (sentence (codes "'" ∷ class_name h v ∷ codes "' object is not " ∷ what ∷ []))

abbrev pub binary_type_error : BinOp → List Object → Value → Value → Content
binary_type_error op h a b =
    error_of_two (codes "unsupported operand type(s) for ") (binary_sign op) (codes ": '") (class_name h a) (class_name h b)

abbrev pub unary_type_error : UnOp → List Object → Value → Content
unary_type_error op h a = error_of_one (codes "bad operand type for unary ") (unary_sign op) (codes ": '") (class_name h a)

abbrev pub order_type_error : CompareOp → List Object → Value → Value → Content
order_type_error op h a b =
    error_of_two (codes "'") (comparison_sign op) (codes "' not supported between instances of '") (class_name h a) (class_name h b)
