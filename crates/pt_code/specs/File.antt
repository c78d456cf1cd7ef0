-- A code file: the bytes of a code. Numbers have four bytes, the least first. A list is its count
-- and its items, a text the count of its bytes and they.
use Rattle.std.specs.Prelude.{◌≡◌, ◌<◌, ◌+◌, ◌*◌, ◌^◌, ℕ, ℤ, Bool, true, false, nat_le, nat_eq, List, [], ◌∷◌, ◌++◌, length, if◌then◌else◌, FitsSigned}
use Rattle.std.specs.List.{flat_map, AllByRecursion}
use Rattle.std.specs.Int.{w32, w128, to_le_bytes, cast_unsigned}
use Rattle.std.specs.Str.{IsUtf8}
use Rattle.pt_ranges.specs.declared.lines.ActMark.{ActMark}
use Rattle.pt_ranges.specs.declared.handlers.Handler.{Handler}
use Rattle.pt_instr.specs.declared.TextNo.{TextNo}
use Rattle.pt_instr.specs.declared.Instr.{Instr}
use Rattle.pt_instr.specs.declared.Instr.TheVariants as instr
use Rattle.pt_instr.specs.Encoding.{encoding, code_of}
use Rattle.pt_code.specs.declared.Const.{Const}
use Rattle.pt_code.specs.declared.Const.TheVariants as const
use Rattle.pt_code.specs.declared.BlockKind.{BlockKind}
use Rattle.pt_code.specs.declared.BlockKind.TheVariants as kind
use Rattle.pt_code.specs.declared.Rest.{Rest}
use Rattle.pt_code.specs.declared.Start.{Start}
use Rattle.pt_code.specs.declared.CodeBlock.{CodeBlock}
use Rattle.pt_code.specs.declared.Code.{Code}
use Rattle.pt_code.specs.declared.parts.Within.{Within}
use Rattle.pt_code.specs.declared.parts.Signature.{Signature}
use Rattle.pt_code.specs.declared.parts.Names.{Names}
use Rattle.pt_code.specs.declared.parts.Tables.{Tables}
use Rattle.pt_code.specs.declared.parts.Operand.{Operand}
use Rattle.pt_code.specs.declared.parts.Operand.TheVariants as operand

unfoldable pub number : ℕ → List ℕ
number n = to_le_bytes w32 n

-- sixteen bytes, in two's complement
unfoldable pub integer : ℤ → List ℕ
integer n = to_le_bytes w128 (cast_unsigned w128 n)

abbrev pub listed : {A : Type 0} → (A → List ℕ) → List A → List ℕ
listed item xs = number (length xs) ++ flat_map item xs

abbrev pub text : List ℕ → List ℕ
text bytes = number (length bytes) ++ bytes

abbrev pub one_if : Bool → ℕ
one_if b = if b then 1 else 0

abbrev pub constant : Const → List ℕ
constant const.None = 0 ∷ []
constant const.False = 1 ∷ []
constant const.True = 2 ∷ []
constant (const.Int n) = 3 ∷ integer n
constant (const.Text t) = 4 ∷ number t.0
constant const.Ellipsis = 5 ∷ []

abbrev pub kind_byte : BlockKind → ℕ
kind_byte kind.Module = 0
kind_byte kind.Function = 1
kind_byte kind.Generator = 2
kind_byte kind.Class = 3
kind_byte kind.GeneratorExpression = 4

abbrev pub flags : Rest → ℕ
flags rest = one_if rest.positional + 2 * one_if rest.named

abbrev pub named : TextNo → List ℕ
named t = number t.0

abbrev pub mark : ActMark → List ℕ
mark m = number m.pc.0 ++ (number m.act.0 ++ (number m.line.0 ++ one_if m.again ∷ []))

abbrev pub handler : Handler → List ℕ
handler h = number h.from.0 ++ (number h.to.0 ++ (number h.target.0 ++ (number h.depth ++ one_if h.always ∷ [])))

abbrev pub start : Start → List ℕ
start s = number s.pc.0 ++ number s.line.0

abbrev pub signature_of : CodeBlock → Signature
signature_of b = record { name = b.name; kind = b.kind; first_line = b.first_line; parameters = b.parameters; rest = b.rest; keyword_only = b.keyword_only }

abbrev pub names_of : CodeBlock → Names
names_of b = record { locals = b.locals; cells = b.cells; free = b.free }

abbrev pub tables_of : CodeBlock → Tables
tables_of b = record { marks = b.marks; handlers = b.handlers; starts = b.starts }

-- the fields of a block up to its lists of names
unfoldable pub signature : CodeBlock → List ℕ
signature b =
    named b.name ++ (kind_byte b.kind ∷ (number b.first_line.0 ++ (number b.parameters ++ (flags b.rest ∷ number b.keyword_only))))

unfoldable pub names : CodeBlock → List ℕ
names b = listed named b.locals ++ (listed named b.cells ++ listed named b.free)

-- its tables, which follow its instructions
unfoldable pub tables : CodeBlock → List ℕ
tables b = listed mark b.marks ++ (listed handler b.handlers ++ listed start b.starts)

unfoldable pub block : CodeBlock → List ℕ
block b = signature b ++ (names b ++ (text b.instructions ++ tables b))

-- four bytes of a name, and the version
abbrev pub magic : List ℕ
magic = 0x50 ∷ 0x54 ∷ 0x43 ∷ 0x46 ∷ 1 ∷ []

unfoldable pub file : Code → List ℕ
file c = magic ++ (listed text c.texts ++ (listed constant c.constants ++ (listed (listed number) c.lists ++ listed block c.blocks)))

-- The conditions on fields. A number names something where it is below the length of its list.

abbrev pub IsNumber : ℕ → Type 0
IsNumber n = n < 2 ^ 32

abbrev pub IsBelow : ℕ → ℕ → Type 0
IsBelow bound n = IsNumber n × (n < bound)

abbrev pub AreListed : {A : Type 0} → (A → Type 0) → List A → Type 0
AreListed P xs = IsNumber (length xs) × AllByRecursion P xs

abbrev pub IsText : List ℕ → Type 0
IsText bytes = IsNumber (length bytes) × IsUtf8 bytes

abbrev pub NamesText : ℕ → TextNo → Type 0
NamesText texts t = IsBelow texts t.0

abbrev pub IsConstant : ℕ → Const → Type 0
IsConstant texts (const.Int n) = FitsSigned w128 n
IsConstant texts (const.Text t) = NamesText texts t
IsConstant texts k = Unit {0}

abbrev pub IsMark : ActMark → Type 0
IsMark m = IsNumber m.pc.0 × (IsNumber m.act.0 × (IsNumber m.line.0 × Unit {0}))

abbrev pub IsHandler : Handler → Type 0
IsHandler h = IsNumber h.from.0 × (IsNumber h.to.0 × (IsNumber h.target.0 × (IsNumber h.depth × Unit {0})))

abbrev pub IsStart : Start → Type 0
IsStart s = IsNumber s.pc.0 × IsNumber s.line.0

-- what the operands of an instruction are
abbrev pub operands : Instr → List Operand
operands (instr.Const k) = operand.Constant ∷ []
operands (instr.Local i) = operand.Local ∷ []
operands (instr.SetLocal i) = operand.Local ∷ []
operands (instr.DelLocal i) = operand.Local ∷ []
operands (instr.FreshLocal i) = operand.Local ∷ []
operands (instr.Cell i) = operand.Cell ∷ []
operands (instr.SetCell i) = operand.Cell ∷ []
operands (instr.DelCell i) = operand.Cell ∷ []
operands (instr.PushCell i) = operand.Cell ∷ []
operands (instr.FreshCell i) = operand.Cell ∷ []
operands (instr.Global t) = operand.Text ∷ []
operands (instr.SetGlobal t) = operand.Text ∷ []
operands (instr.DelGlobal t) = operand.Text ∷ []
operands (instr.Name t) = operand.Text ∷ []
operands (instr.SetName t) = operand.Text ∷ []
operands (instr.DelName t) = operand.Text ∷ []
operands (instr.Attr t) = operand.Text ∷ []
operands (instr.SetAttr t) = operand.Text ∷ []
operands (instr.DelAttr t) = operand.Text ∷ []
operands (instr.Import t) = operand.Text ∷ []
operands (instr.ImportName t) = operand.Text ∷ []
operands (instr.Unary o) = operand.Unary ∷ []
operands (instr.Binary o) = operand.Binary ∷ []
operands (instr.InPlace o) = operand.Binary ∷ []
operands (instr.Compare o) = operand.Comparison ∷ []
operands (instr.Format c) = operand.Conversion ∷ []
operands (instr.AssertFail given) = operand.Flag ∷ []
operands (instr.Tuple n) = operand.Number ∷ []
operands (instr.List n) = operand.Number ∷ []
operands (instr.Set n) = operand.Number ∷ []
operands (instr.Dict n) = operand.Number ∷ []
operands (instr.ListAdd n) = operand.Number ∷ []
operands (instr.SetAdd n) = operand.Number ∷ []
operands (instr.DictAdd n) = operand.Number ∷ []
operands (instr.Join n) = operand.Number ∷ []
operands (instr.Unpack n) = operand.Number ∷ []
operands (instr.Call n) = operand.Number ∷ []
operands (instr.Next to) = operand.Number ∷ []
operands (instr.Jump to) = operand.Number ∷ []
operands (instr.JumpIf to) = operand.Number ∷ []
operands (instr.JumpUnless to) = operand.Number ∷ []
operands (instr.JumpIfKeep to) = operand.Number ∷ []
operands (instr.JumpUnlessKeep to) = operand.Number ∷ []
operands (instr.Leave to) = operand.Number ∷ []
operands (instr.MakeClass b) = operand.Block ∷ []
operands (instr.MakeGenerator b) = operand.Block ∷ []
operands (instr.UnpackStar n m) = operand.Number ∷ operand.Number ∷ []
operands (instr.CallKw n l) = operand.Number ∷ operand.List ∷ []
operands (instr.CallSpread n l) = operand.Number ∷ operand.List ∷ []
operands (instr.MakeFunction b n l) = operand.Block ∷ operand.Number ∷ operand.List ∷ []
operands i = []

-- what an operand is below
abbrev pub bound : Within → Operand → ℕ
bound within operand.Number = 2 ^ 32
bound within operand.Constant = within.constants
bound within operand.Text = within.texts
bound within operand.Local = within.locals
bound within operand.Cell = within.cells
bound within operand.List = within.lists
bound within operand.Block = within.blocks
bound within operand.Unary = 3
bound within operand.Binary = 12
bound within operand.Comparison = 10
bound within operand.Conversion = 3
bound within operand.Flag = 2

abbrev pub AreBelow : Within → List Operand → List ℕ → Type 0
AreBelow within [] [] = Unit {0}
AreBelow within (o ∷ os) (n ∷ ns) = IsBelow (bound within o) n × AreBelow within os ns
AreBelow within os ns = ⊥

-- each operand of the instruction is below its bound
abbrev pub NamesAll : Within → Instr → Type 0
NamesAll within i = AreBelow within (operands i) (code_of i).operands

-- the bytes are those of instructions, of which there is one at least
pub record AreInstructions (within : Within) (bytes : List ℕ) : Type 0 where
  pub some : 0 < length bytes
  pub counted : IsNumber (length bytes)
  pub instrs : List Instr
  pub spelled : bytes ≡ flat_map encoding instrs
  pub named : AllByRecursion (NamesAll within) instrs

abbrev pub takes_arguments : BlockKind → Bool
takes_arguments kind.Function = true
takes_arguments kind.Generator = true
takes_arguments k = false

abbrev pub is_module : BlockKind → Bool
is_module kind.Module = true
is_module k = false

-- the module stands first, and no other block does
abbrev pub stands_first : (first : Bool) → BlockKind → Bool
stands_first true kind = is_module kind
stands_first false kind = if is_module kind then false else true

-- only functions and generators have parameters
abbrev pub may_count : BlockKind → ℕ → Bool
may_count kind n = if takes_arguments kind then true else nat_eq n 0

abbrev pub parameter_count : Signature → ℕ
parameter_count s = s.parameters + s.keyword_only + one_if s.rest.positional + one_if s.rest.named

-- a module has no free names
abbrev pub may_be_free : BlockKind → (count : ℕ) → Bool
may_be_free kind count = if is_module kind then nat_eq count 0 else true

abbrev pub IsSignature : Within → Signature → Type 0
IsSignature within s =
    NamesText within.texts s.name × ((Unit {0} × (stands_first within.first s.kind ≡ true)) × (IsNumber s.first_line.0
    × ((IsNumber s.parameters × (may_count s.kind s.parameters ≡ true)) × ((Unit {0} × (may_count s.kind (flags s.rest) ≡ true)) × (IsNumber s.keyword_only × (may_count s.kind s.keyword_only ≡ true))))))

-- the names of the parameters stand first among the locals
abbrev pub AreNames : Within → Signature → Names → Type 0
AreNames within s n =
    (AreListed (NamesText within.texts) n.locals × (nat_le (parameter_count s) (length n.locals) ≡ true))
    × (AreListed (NamesText within.texts) n.cells × (AreListed (NamesText within.texts) n.free × (may_be_free s.kind (length n.free) ≡ true)))

abbrev pub AreTables : Tables → Type 0
AreTables t = AreListed IsMark t.marks × (AreListed IsHandler t.handlers × AreListed IsStart t.starts)

-- where a block names its locals and cells
abbrev pub naming : Within → Names → Within
naming within n = record within { locals = length n.locals; cells = length n.cells + length n.free }

-- each field of a block is one
abbrev pub IsBlock : Within → CodeBlock → Type 0
IsBlock within b =
    IsSignature within (signature_of b) × (AreNames within (signature_of b) (names_of b)
    × (AreInstructions (naming within (names_of b)) b.instructions × AreTables (tables_of b)))

-- what a block of a code names; one alone is the module
abbrev pub inside : (texts constants lists blocks : ℕ) → (first : Bool) → Within
inside texts constants lists blocks first = record { texts = texts; constants = constants; lists = lists; blocks = blocks; locals = 0; cells = 0; first = first }

-- the first of the blocks is the module, and no other
abbrev pub AreBlocks : (texts constants lists : ℕ) → List CodeBlock → Type 0
AreBlocks texts constants lists [] = ⊥
AreBlocks texts constants lists (b ∷ bs) =
    IsNumber (length (b ∷ bs)) × IsBlock (inside texts constants lists (length (b ∷ bs)) true) b × AllByRecursion (IsBlock (inside texts constants lists (length (b ∷ bs)) false)) bs

-- each field of a code is one, so that it has a file
abbrev pub HasFile : Code → Type 0
HasFile c =
    AreListed IsText c.texts × (AreListed (IsConstant (length c.texts)) c.constants × (AreListed (AreListed (IsBelow (length c.texts))) c.lists
    × AreBlocks (length c.texts) (length c.constants) (length c.lists) c.blocks))
