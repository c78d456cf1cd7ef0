-- Which instruction a number and three words stand for. Words past an instruction's operands say nothing.
use Rattle.std.specs.Prelude.{ℕ, ◌==◌, Bool, true, false, Option, None, Some, option_map, List, [], ◌∷◌, slice_index_or, ◌+◌, ◌*◌, length, drop, nat_lt, if◌then◌else◌}
use Rattle.std.specs.Int.{w32, from_le_bytes}
use Rattle.pt_instr.specs.Encoding.{code_of}
use Rattle.pt_base.specs.declared.operators.UnOp.{UnOp}
use Rattle.pt_base.specs.declared.operators.UnOp.TheVariants as unary
use Rattle.pt_base.specs.declared.operators.BinOp.{BinOp}
use Rattle.pt_base.specs.declared.operators.BinOp.TheVariants as binary
use Rattle.pt_base.specs.declared.operators.CompareOp.{CompareOp}
use Rattle.pt_base.specs.declared.operators.CompareOp.TheVariants as comparison
use Rattle.pt_instr.specs.declared.Conversion.{Conversion}
use Rattle.pt_instr.specs.declared.Conversion.TheVariants as conversion
use Rattle.pt_instr.specs.declared.Instr.{Instr}
use Rattle.pt_instr.specs.declared.Instr.TheVariants as instr

abbrev pub conversion_of : ℕ → Option Conversion
conversion_of n =
    if n == 0 then Some conversion.Plain
    else if n == 1 then Some conversion.Str
    else if n == 2 then Some conversion.Repr
    else None

abbrev pub unary_of : ℕ → Option UnOp
unary_of n =
    if n == 0 then Some unary.Plus
    else if n == 1 then Some unary.Minus
    else if n == 2 then Some unary.Invert
    else None

abbrev pub binary_of : ℕ → Option BinOp
binary_of n =
    if n == 0 then Some binary.Add
    else if n == 1 then Some binary.Sub
    else if n == 2 then Some binary.Mul
    else if n == 3 then Some binary.Div
    else if n == 4 then Some binary.FloorDiv
    else if n == 5 then Some binary.Mod
    else if n == 6 then Some binary.Pow
    else if n == 7 then Some binary.BitAnd
    else if n == 8 then Some binary.BitOr
    else if n == 9 then Some binary.BitXor
    else if n == 10 then Some binary.LeftShift
    else if n == 11 then Some binary.RightShift
    else None

abbrev pub comparison_of : ℕ → Option CompareOp
comparison_of n =
    if n == 0 then Some comparison.Less
    else if n == 1 then Some comparison.LessEqual
    else if n == 2 then Some comparison.Greater
    else if n == 3 then Some comparison.GreaterEqual
    else if n == 4 then Some comparison.Equal
    else if n == 5 then Some comparison.NotEqual
    else if n == 6 then Some comparison.In
    else if n == 7 then Some comparison.NotIn
    else if n == 8 then Some comparison.Is
    else if n == 9 then Some comparison.IsNot
    else None

abbrev pub flag_of : ℕ → Option Bool
flag_of n =
    if n == 0 then Some false
    else if n == 1 then Some true
    else None

-- the instructions in the order of their numbers
abbrev pub instrs : (x y z : ℕ) → List (Option Instr)
instrs x y z =
    Some instr.Nop ∷
    (Some (instr.Const (record { 0 = x }))) ∷
    (Some (instr.Local (record { 0 = x }))) ∷
    (Some (instr.SetLocal (record { 0 = x }))) ∷
    (Some (instr.DelLocal (record { 0 = x }))) ∷
    (Some (instr.Cell (record { 0 = x }))) ∷
    (Some (instr.SetCell (record { 0 = x }))) ∷
    (Some (instr.DelCell (record { 0 = x }))) ∷
    (Some (instr.Global (record { 0 = x }))) ∷
    (Some (instr.SetGlobal (record { 0 = x }))) ∷
    (Some (instr.DelGlobal (record { 0 = x }))) ∷
    (Some (instr.Name (record { 0 = x }))) ∷
    (Some (instr.SetName (record { 0 = x }))) ∷
    (Some (instr.DelName (record { 0 = x }))) ∷
    (Some (instr.PushCell (record { 0 = x }))) ∷
    Some instr.Pop ∷
    Some instr.Copy ∷
    Some instr.Copy2 ∷
    Some instr.Swap ∷
    Some instr.Rot3 ∷
    (Some (instr.Attr (record { 0 = x }))) ∷
    (Some (instr.SetAttr (record { 0 = x }))) ∷
    (Some (instr.DelAttr (record { 0 = x }))) ∷
    Some instr.Item ∷
    Some instr.SetItem ∷
    Some instr.DelItem ∷
    Some instr.Slice ∷
    (option_map instr.Unary (unary_of x)) ∷
    Some instr.Not ∷
    (option_map instr.Binary (binary_of x)) ∷
    (option_map instr.InPlace (binary_of x)) ∷
    (option_map instr.Compare (comparison_of x)) ∷
    (Some (instr.Tuple x)) ∷
    (Some (instr.List x)) ∷
    (Some (instr.Set x)) ∷
    (Some (instr.Dict x)) ∷
    (Some (instr.ListAdd x)) ∷
    (Some (instr.SetAdd x)) ∷
    (Some (instr.DictAdd x)) ∷
    (option_map instr.Format (conversion_of x)) ∷
    (Some (instr.Join x)) ∷
    (Some (instr.Unpack x)) ∷
    (Some (instr.UnpackStar x y)) ∷
    Some instr.Spread ∷
    Some instr.SpreadMap ∷
    (Some (instr.Call x)) ∷
    (Some (instr.CallKw x (record { 0 = y }))) ∷
    (Some (instr.CallSpread x (record { 0 = y }))) ∷
    (Some (instr.MakeFunction (record { 0 = x }) y (record { 0 = z }))) ∷
    (Some (instr.MakeClass (record { 0 = x }))) ∷
    (Some (instr.MakeGenerator (record { 0 = x }))) ∷
    Some instr.Iter ∷
    (Some (instr.Next (record { 0 = x }))) ∷
    (Some (instr.Jump (record { 0 = x }))) ∷
    (Some (instr.JumpIf (record { 0 = x }))) ∷
    (Some (instr.JumpUnless (record { 0 = x }))) ∷
    (Some (instr.JumpIfKeep (record { 0 = x }))) ∷
    (Some (instr.JumpUnlessKeep (record { 0 = x }))) ∷
    Some instr.Return ∷
    Some instr.Yield ∷
    Some instr.Delegate ∷
    Some instr.Raise ∷
    Some instr.RaiseFrom ∷
    Some instr.RaiseAgain ∷
    Some instr.Match ∷
    Some instr.Caught ∷
    Some instr.EndHandler ∷
    Some instr.Rethrow ∷
    Some instr.Enter ∷
    Some instr.Normal ∷
    Some instr.Exit ∷
    Some instr.EndFinally ∷
    (Some (instr.Leave (record { 0 = x }))) ∷
    (Some (instr.Import (record { 0 = x }))) ∷
    (Some (instr.ImportName (record { 0 = x }))) ∷
    (option_map instr.AssertFail (flag_of x)) ∷
    Some instr.TupleJoin ∷
    Some instr.DictMerge ∷
    Some instr.Super ∷
    (Some (instr.FreshLocal (record { 0 = x }))) ∷
    (Some (instr.FreshCell (record { 0 = x }))) ∷
    []

unfoldable pub instr_of : (number x y z : ℕ) → Option Instr
instr_of number x y z = slice_index_or (instrs x y z) number None

-- the number that the first four bytes spell, or 0 where they are fewer
abbrev pub word_of : List ℕ → ℕ
word_of (a ∷ b ∷ c ∷ d ∷ bytes) = from_le_bytes w32 (a ∷ b ∷ c ∷ d ∷ [])
word_of bytes = 0

-- the instruction, if its operands are there, and its width
abbrev pub within : List ℕ → Option Instr → Option (Instr × ℕ)
within bytes None = None
within bytes (Some i) = if nat_lt (length bytes) (4 * length (code_of i).operands) then None else Some (i, 1 + 4 * length (code_of i).operands)

abbrev pub front_of : List ℕ → Option (Instr × ℕ)
front_of [] = None
front_of (n ∷ bytes) = within bytes (instr_of n (word_of bytes) (word_of (drop 4 bytes)) (word_of (drop 4 (drop 4 bytes))))
