-- The number of each instruction, and its operands as numbers.
use Rattle.std.specs.Prelude.{ℕ, ◌+◌, ◌<◌, ◌≡◌, ◌^◌, List, [], ◌∷◌, ◌++◌, length, drop, if◌then◌else◌}
use Rattle.std.specs.List.{AllByRecursion}
use Rattle.std.specs.Int.{w32, to_le_bytes}
use Rattle.pt_base.specs.declared.operators.UnOp.{UnOp}
use Rattle.pt_base.specs.declared.operators.UnOp.TheVariants as unary
use Rattle.pt_base.specs.declared.operators.BinOp.{BinOp}
use Rattle.pt_base.specs.declared.operators.BinOp.TheVariants as binary
use Rattle.pt_base.specs.declared.operators.CompareOp.{CompareOp}
use Rattle.pt_base.specs.declared.operators.CompareOp.TheVariants as comparison
use Rattle.pt_instr.specs.declared.Conversion.{Conversion}
use Rattle.pt_instr.specs.declared.Conversion.TheVariants as conversion
use Rattle.pt_instr.specs.declared.Instr.{Instr}
use Rattle.pt_instr.specs.declared.Instr.TheVariants as instr
use Rattle.pt_instr.specs.declared.code.Numbered.{Numbered}
use Rattle.pt_instr.specs.declared.code.Operands.{Operands}
use Rattle.pt_instr.specs.declared.code.Operands.TheVariants as operands

abbrev pub conversion_number : Conversion → ℕ
conversion_number conversion.Plain = 0
conversion_number conversion.Str = 1
conversion_number conversion.Repr = 2

abbrev pub unary_number : UnOp → ℕ
unary_number unary.Plus = 0
unary_number unary.Minus = 1
unary_number unary.Invert = 2

abbrev pub binary_number : BinOp → ℕ
binary_number binary.Add = 0
binary_number binary.Sub = 1
binary_number binary.Mul = 2
binary_number binary.Div = 3
binary_number binary.FloorDiv = 4
binary_number binary.Mod = 5
binary_number binary.Pow = 6
binary_number binary.BitAnd = 7
binary_number binary.BitOr = 8
binary_number binary.BitXor = 9
binary_number binary.LeftShift = 10
binary_number binary.RightShift = 11

abbrev pub comparison_number : CompareOp → ℕ
comparison_number comparison.Less = 0
comparison_number comparison.LessEqual = 1
comparison_number comparison.Greater = 2
comparison_number comparison.GreaterEqual = 3
comparison_number comparison.Equal = 4
comparison_number comparison.NotEqual = 5
comparison_number comparison.In = 6
comparison_number comparison.NotIn = 7
comparison_number comparison.Is = 8
comparison_number comparison.IsNot = 9

-- an instruction as numbers
pub record Code : Type 0 where
  pub number : ℕ
  pub operands : List ℕ

abbrev pub code : ℕ → List ℕ → Code
code number operands = record { number = number; operands = operands }

unfoldable pub code_of : Instr → Code
code_of instr.Nop = code 0 []
code_of (instr.Const k) = code 1 (k.0 ∷ [])
code_of (instr.Local i) = code 2 (i.0 ∷ [])
code_of (instr.SetLocal i) = code 3 (i.0 ∷ [])
code_of (instr.DelLocal i) = code 4 (i.0 ∷ [])
code_of (instr.Cell i) = code 5 (i.0 ∷ [])
code_of (instr.SetCell i) = code 6 (i.0 ∷ [])
code_of (instr.DelCell i) = code 7 (i.0 ∷ [])
code_of (instr.Global t) = code 8 (t.0 ∷ [])
code_of (instr.SetGlobal t) = code 9 (t.0 ∷ [])
code_of (instr.DelGlobal t) = code 10 (t.0 ∷ [])
code_of (instr.Name t) = code 11 (t.0 ∷ [])
code_of (instr.SetName t) = code 12 (t.0 ∷ [])
code_of (instr.DelName t) = code 13 (t.0 ∷ [])
code_of (instr.PushCell i) = code 14 (i.0 ∷ [])
code_of instr.Pop = code 15 []
code_of instr.Copy = code 16 []
code_of instr.Copy2 = code 17 []
code_of instr.Swap = code 18 []
code_of instr.Rot3 = code 19 []
code_of (instr.Attr t) = code 20 (t.0 ∷ [])
code_of (instr.SetAttr t) = code 21 (t.0 ∷ [])
code_of (instr.DelAttr t) = code 22 (t.0 ∷ [])
code_of instr.Item = code 23 []
code_of instr.SetItem = code 24 []
code_of instr.DelItem = code 25 []
code_of instr.Slice = code 26 []
code_of (instr.Unary o) = code 27 ((unary_number o) ∷ [])
code_of instr.Not = code 28 []
code_of (instr.Binary o) = code 29 ((binary_number o) ∷ [])
code_of (instr.InPlace o) = code 30 ((binary_number o) ∷ [])
code_of (instr.Compare o) = code 31 ((comparison_number o) ∷ [])
code_of (instr.Tuple n) = code 32 (n ∷ [])
code_of (instr.List n) = code 33 (n ∷ [])
code_of (instr.Set n) = code 34 (n ∷ [])
code_of (instr.Dict n) = code 35 (n ∷ [])
code_of (instr.ListAdd n) = code 36 (n ∷ [])
code_of (instr.SetAdd n) = code 37 (n ∷ [])
code_of (instr.DictAdd n) = code 38 (n ∷ [])
code_of (instr.Format c) = code 39 ((conversion_number c) ∷ [])
code_of (instr.Join n) = code 40 (n ∷ [])
code_of (instr.Unpack n) = code 41 (n ∷ [])
code_of (instr.UnpackStar n m) = code 42 (n ∷ m ∷ [])
code_of instr.Spread = code 43 []
code_of instr.SpreadMap = code 44 []
code_of (instr.Call n) = code 45 (n ∷ [])
code_of (instr.CallKw n l) = code 46 (n ∷ l.0 ∷ [])
code_of (instr.CallSpread n l) = code 47 (n ∷ l.0 ∷ [])
code_of (instr.MakeFunction b n l) = code 48 (b.0 ∷ n ∷ l.0 ∷ [])
code_of (instr.MakeClass b) = code 49 (b.0 ∷ [])
code_of (instr.MakeGenerator b) = code 50 (b.0 ∷ [])
code_of instr.Iter = code 51 []
code_of (instr.Next to) = code 52 (to.0 ∷ [])
code_of (instr.Jump to) = code 53 (to.0 ∷ [])
code_of (instr.JumpIf to) = code 54 (to.0 ∷ [])
code_of (instr.JumpUnless to) = code 55 (to.0 ∷ [])
code_of (instr.JumpIfKeep to) = code 56 (to.0 ∷ [])
code_of (instr.JumpUnlessKeep to) = code 57 (to.0 ∷ [])
code_of instr.Return = code 58 []
code_of instr.Yield = code 59 []
code_of instr.Delegate = code 60 []
code_of instr.Raise = code 61 []
code_of instr.RaiseFrom = code 62 []
code_of instr.RaiseAgain = code 63 []
code_of instr.Match = code 64 []
code_of instr.Caught = code 65 []
code_of instr.EndHandler = code 66 []
code_of instr.Rethrow = code 67 []
code_of instr.Enter = code 68 []
code_of instr.Normal = code 69 []
code_of instr.Exit = code 70 []
code_of instr.EndFinally = code 71 []
code_of (instr.Leave to) = code 72 (to.0 ∷ [])
code_of (instr.Import t) = code 73 (t.0 ∷ [])
code_of (instr.ImportName t) = code 74 (t.0 ∷ [])
code_of (instr.AssertFail given) = code 75 ((if given then 1 else 0) ∷ [])
code_of instr.TupleJoin = code 76 []
code_of instr.DictMerge = code 77 []
code_of instr.Super = code 78 []
code_of (instr.FreshLocal i) = code 79 (i.0 ∷ [])
code_of (instr.FreshCell i) = code 80 (i.0 ∷ [])

-- numbers of four bytes each, the least byte first
abbrev pub spelled : List ℕ → List ℕ
spelled [] = []
spelled (x ∷ xs) = to_le_bytes w32 x ++ spelled xs

-- one byte, and then the operands
abbrev pub encoding : Instr → List ℕ
encoding i = (code_of i).number ∷ spelled (code_of i).operands

-- its operands have four bytes
abbrev pub Fits : Instr → Type 0
Fits i = AllByRecursion (λ n. n < 2 ^ 32) (code_of i).operands

-- the bytes begin with the instruction, which takes so many of them
abbrev pub BeginsWith : List ℕ → Instr → (width : ℕ) → Type 0
BeginsWith bytes i width = (rest : List ℕ) × (bytes ≡ encoding i ++ rest) × (width ≡ length (encoding i))

-- the instruction stands in the bytes from the first place up to the second
abbrev pub StandsAt : List ℕ → Instr → (from to : ℕ) → Type 0
StandsAt bytes i from to = (width : ℕ) × BeginsWith (drop from bytes) i width × (to ≡ from + width)

-- the first list with more behind it
abbrev pub Extends : (old new : List ℕ) → Type 0
Extends old new = (more : List ℕ) × (new ≡ old ++ more)

abbrev pub listed : Operands → List ℕ
listed operands.None = []
listed (operands.One x) = x ∷ []
listed (operands.Two x y) = x ∷ y ∷ []
listed (operands.Three x y z) = x ∷ y ∷ z ∷ []

abbrev pub seen : Numbered → Code
seen c = code c.number (listed c.operands)
