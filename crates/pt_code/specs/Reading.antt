-- Reading from the front of bytes: a value and the bytes behind it, or where the format fails first.
use Rattle.std.specs.Prelude.{◌≡◌, ◌+◌, ◌*◌, ◌-◌, ℕ, zero, suc, Bool, true, false, nat_lt, nat_le, nat_eq, ℤ, List, [], ◌∷◌, ◌++◌, length, take, drop, if◌then◌else◌, Result, Ok, Err, Option, Some, None, slice_index_or}
use Rattle.std.specs.Int.{w32, w128, from_le_bytes, cast_signed}
use Rattle.std.specs.Str.{is_utf8}
use Rattle.pt_ranges.specs.declared.lines.ActMark.{ActMark}
use Rattle.pt_ranges.specs.declared.handlers.Handler.{Handler}
use Rattle.pt_instr.specs.declared.TextNo.{TextNo}
use Rattle.pt_code.specs.declared.Const.{Const}
use Rattle.pt_code.specs.declared.Const.TheVariants as const
use Rattle.pt_code.specs.declared.BlockKind.{BlockKind}
use Rattle.pt_code.specs.declared.BlockKind.TheVariants as kind
use Rattle.pt_code.specs.declared.Rest.{Rest}
use Rattle.pt_code.specs.declared.Start.{Start}
use Rattle.pt_code.specs.declared.CodeBlock.{CodeBlock}
use Rattle.pt_code.specs.declared.Code.{Code}
use Rattle.pt_code.specs.declared.parts.Bad.{Bad}
use Rattle.pt_code.specs.declared.parts.Bad.TheVariants as bad
use Rattle.pt_code.specs.declared.parts.Within.{Within}
use Rattle.pt_code.specs.declared.parts.Signature.{Signature}
use Rattle.pt_code.specs.declared.parts.Names.{Names}
use Rattle.pt_code.specs.declared.parts.Tables.{Tables}
use Rattle.pt_code.specs.declared.parts.Operand.{Operand}
use Rattle.pt_code.specs.declared.parts.Operand.TheVariants as operand
use Rattle.pt_code.specs.File.{bound, flags, stands_first, may_count, parameter_count, may_be_free, naming, inside}

abbrev pub Read : Type 0 → Type 0
Read A = Result (A × List ℕ) Bad

infixl 10 ◌>>=◌
abbrev pub ◌>>=◌ : {A B : Type 0} → Result A Bad → (A → Result B Bad) → Result B Bad
(Ok x) >>= f = f x
(Err e) >>= f = Err e

-- an answer, seen by view, is what reading gives, unless memory ran out
abbrev pub Fails : {Y : Type 0} → Bad → Result Y Bad → Type 0
Fails bad.Memory read = Unit {0}
Fails e read = read ≡ Err e

abbrev pub Gives : {X Y : Type 0} → (X → Y) → Result X Bad → Result Y Bad → Type 0
Gives view (Ok x) read = read ≡ Ok (view x)
Gives view (Err e) read = Fails e read

-- one field and then another
abbrev pub both : {A B : Type 0} → (List ℕ → Read A) → (A → List ℕ → Read B) → List ℕ → Read (A × B)
both first second bytes = first bytes >>= λ a. second a.0 a.1 >>= λ b. Ok ((a.0, b.0), b.1)

-- what is made of fields
abbrev pub made : {A B : Type 0} → (A → B) → (List ℕ → Read A) → List ℕ → Read B
made make read bytes = read bytes >>= λ a. Ok (make a.0, a.1)

-- a field that passes a test, or a fault at its start
abbrev pub kept : {A : Type 0} → (A → Bool) → (List ℕ → Read A) → List ℕ → Read A
kept test read bytes = read bytes >>= λ a. if test a.0 then Ok a else Err (bad.Field (length bytes))

unfoldable pub number_at : List ℕ → Read ℕ
number_at (a ∷ b ∷ c ∷ d ∷ rest) = Ok (from_le_bytes w32 (a ∷ b ∷ c ∷ d ∷ []), rest)
number_at bytes = Err bad.Short

unfoldable pub byte_at : List ℕ → Read ℕ
byte_at [] = Err bad.Short
byte_at (b ∷ rest) = Ok (b, rest)

-- a number that names one of so many, or a fault at its start
unfoldable pub below_at : (bound : ℕ) → List ℕ → Read ℕ
below_at bound = kept (λ n. nat_lt n bound) number_at

-- a byte 0 or 1
unfoldable pub flag_at : List ℕ → Read Bool
flag_at [] = Err bad.Short
flag_at (zero ∷ rest) = Ok (false, rest)
flag_at (suc zero ∷ rest) = Ok (true, rest)
flag_at (b ∷ rest) = Err (bad.Field (length (b ∷ rest)))

unfoldable pub start_at : List ℕ → Read Start
start_at = made (λ s. record { pc = record { 0 = s.0 }; line = record { 0 = s.1 } }) (both number_at λ _. number_at)

unfoldable pub mark_at : List ℕ → Read ActMark
mark_at =
    made (λ m. record { pc = record { 0 = m.0 }; act = record { 0 = m.1.0 }; line = record { 0 = m.1.1.0 }; again = m.1.1.1 })
    (both number_at λ _. both number_at λ _. both number_at λ _. flag_at)

unfoldable pub handler_at : List ℕ → Read Handler
handler_at =
    made (λ h. record { from = record { 0 = h.0 }; to = record { 0 = h.1.0 }; target = record { 0 = h.1.1.0 }; depth = h.1.1.1.0; always = h.1.1.1.1 })
    (both number_at λ _. both number_at λ _. both number_at λ _. both number_at λ _. flag_at)

-- so many of what one reader reads, in a row
abbrev pub items_at : {A : Type 0} → (List ℕ → Read A) → (count : ℕ) → List ℕ → Read (List A)
items_at item zero bytes = Ok ([], bytes)
items_at item (suc count) bytes = item bytes >>= λ first. items_at item count first.1 >>= λ more. Ok (first.0 ∷ more.0, more.1)

abbrev pub list_at : {A : Type 0} → (List ℕ → Read A) → List ℕ → Read (List A)
list_at item bytes = number_at bytes >>= λ count. items_at item count.0 count.1

-- the same, where the count passes a test
abbrev pub counted_at : {A : Type 0} → (ℕ → Bool) → (List ℕ → Read A) → List ℕ → Read (List A)
counted_at test item bytes = kept test number_at bytes >>= λ count. items_at item count.0 count.1

-- what is read in front of the rest
abbrev pub with_front : {A : Type 0} → List A → Read (List A) → Read (List A)
with_front front read = read >>= λ more. Ok (front ++ more.0, more.1)

unfoldable pub taken_at : ℕ → List ℕ → Read (List ℕ)
taken_at count bytes = if nat_lt (length bytes) count then Err bad.Short else Ok (take count bytes, drop count bytes)

-- the count of bytes, and they
abbrev pub string_at : List ℕ → Read (List ℕ)
string_at bytes = number_at bytes >>= λ count. taken_at count.0 count.1

-- a text that isn't UTF-8 is a fault at its count
unfoldable pub text_at : List ℕ → Read (List ℕ)
text_at = kept is_utf8 string_at

unfoldable pub name_at : ℕ → List ℕ → Read TextNo
name_at texts = made (λ n. record { 0 = n }) (below_at texts)

unfoldable pub integer_at : List ℕ → Read ℤ
integer_at = made (λ bytes. cast_signed w128 (from_le_bytes w128 bytes)) (taken_at 16)

unfoldable pub const_at : ℕ → List ℕ → Read Const
const_at texts [] = Err bad.Short
const_at texts (zero ∷ rest) = Ok (const.None, rest)
const_at texts (suc zero ∷ rest) = Ok (const.False, rest)
const_at texts (suc (suc zero) ∷ rest) = Ok (const.True, rest)
const_at texts (suc (suc (suc zero)) ∷ rest) = made const.Int integer_at rest
const_at texts (suc (suc (suc (suc zero))) ∷ rest) = made const.Text (name_at texts) rest
const_at texts (suc (suc (suc (suc (suc zero)))) ∷ rest) = Ok (const.Ellipsis, rest)
const_at texts (b ∷ rest) = Err (bad.Field (length (b ∷ rest)))

unfoldable pub kind_at : List ℕ → Read BlockKind
kind_at [] = Err bad.Short
kind_at (zero ∷ rest) = Ok (kind.Module, rest)
kind_at (suc zero ∷ rest) = Ok (kind.Function, rest)
kind_at (suc (suc zero) ∷ rest) = Ok (kind.Generator, rest)
kind_at (suc (suc (suc zero)) ∷ rest) = Ok (kind.Class, rest)
kind_at (suc (suc (suc (suc zero))) ∷ rest) = Ok (kind.GeneratorExpression, rest)
kind_at (b ∷ rest) = Err (bad.Field (length (b ∷ rest)))

unfoldable pub rest_at : List ℕ → Read Rest
rest_at [] = Err bad.Short
rest_at (zero ∷ rest) = Ok (record { positional = false; named = false }, rest)
rest_at (suc zero ∷ rest) = Ok (record { positional = true; named = false }, rest)
rest_at (suc (suc zero) ∷ rest) = Ok (record { positional = false; named = true }, rest)
rest_at (suc (suc (suc zero)) ∷ rest) = Ok (record { positional = true; named = true }, rest)
rest_at (b ∷ rest) = Err (bad.Field (length (b ∷ rest)))

unfoldable pub signature_at : Within → List ℕ → Read Signature
signature_at within =
    made (λ s. record { name = s.0; kind = s.1.0; first_line = record { 0 = s.1.1.0 }; parameters = s.1.1.1.0; rest = s.1.1.1.1.0; keyword_only = s.1.1.1.1.1 })
    (both (name_at within.texts) λ _. both (kept (stands_first within.first) kind_at) λ kind. both number_at λ _. both (kept (may_count kind) number_at) λ _. both (kept (λ r. may_count kind (flags r)) rest_at) λ _. kept (may_count kind) number_at)

unfoldable pub names_at : Within → Signature → List ℕ → Read Names
names_at within s =
    made (λ n. record { locals = n.0; cells = n.1.0; free = n.1.1 })
    (both (counted_at (nat_le (parameter_count s)) (name_at within.texts)) λ _. both (list_at (name_at within.texts)) λ _. counted_at (may_be_free s.kind) (name_at within.texts))

unfoldable pub tables_at : List ℕ → Read Tables
tables_at = made (λ t. record { marks = t.0; handlers = t.1.0; starts = t.1.1 }) (both (list_at mark_at) λ _. both (list_at handler_at) λ _. list_at start_at)

-- what the operands of each operation are, in the order of their numbers
abbrev pub operations : List (Option (List Operand))
operations =
    Some [] ∷
    Some (operand.Constant ∷ []) ∷
    Some (operand.Local ∷ []) ∷
    Some (operand.Local ∷ []) ∷
    Some (operand.Local ∷ []) ∷
    Some (operand.Cell ∷ []) ∷
    Some (operand.Cell ∷ []) ∷
    Some (operand.Cell ∷ []) ∷
    Some (operand.Text ∷ []) ∷
    Some (operand.Text ∷ []) ∷
    Some (operand.Text ∷ []) ∷
    Some (operand.Text ∷ []) ∷
    Some (operand.Text ∷ []) ∷
    Some (operand.Text ∷ []) ∷
    Some (operand.Cell ∷ []) ∷
    Some [] ∷
    Some [] ∷
    Some [] ∷
    Some [] ∷
    Some [] ∷
    Some (operand.Text ∷ []) ∷
    Some (operand.Text ∷ []) ∷
    Some (operand.Text ∷ []) ∷
    Some [] ∷
    Some [] ∷
    Some [] ∷
    Some [] ∷
    Some (operand.Unary ∷ []) ∷
    Some [] ∷
    Some (operand.Binary ∷ []) ∷
    Some (operand.Binary ∷ []) ∷
    Some (operand.Comparison ∷ []) ∷
    Some (operand.Number ∷ []) ∷
    Some (operand.Number ∷ []) ∷
    Some (operand.Number ∷ []) ∷
    Some (operand.Number ∷ []) ∷
    Some (operand.Number ∷ []) ∷
    Some (operand.Number ∷ []) ∷
    Some (operand.Number ∷ []) ∷
    Some (operand.Conversion ∷ []) ∷
    Some (operand.Number ∷ []) ∷
    Some (operand.Number ∷ []) ∷
    Some (operand.Number ∷ operand.Number ∷ []) ∷
    Some [] ∷
    Some [] ∷
    Some (operand.Number ∷ []) ∷
    Some (operand.Number ∷ operand.List ∷ []) ∷
    Some (operand.Number ∷ operand.List ∷ []) ∷
    Some (operand.Block ∷ operand.Number ∷ operand.List ∷ []) ∷
    Some (operand.Block ∷ []) ∷
    Some (operand.Block ∷ []) ∷
    Some [] ∷
    Some (operand.Number ∷ []) ∷
    Some (operand.Number ∷ []) ∷
    Some (operand.Number ∷ []) ∷
    Some (operand.Number ∷ []) ∷
    Some (operand.Number ∷ []) ∷
    Some (operand.Number ∷ []) ∷
    Some [] ∷
    Some [] ∷
    Some [] ∷
    Some [] ∷
    Some [] ∷
    Some [] ∷
    Some [] ∷
    Some [] ∷
    Some [] ∷
    Some [] ∷
    Some [] ∷
    Some [] ∷
    Some [] ∷
    Some [] ∷
    Some (operand.Number ∷ []) ∷
    Some (operand.Text ∷ []) ∷
    Some (operand.Text ∷ []) ∷
    Some (operand.Flag ∷ []) ∷
    Some [] ∷
    Some [] ∷
    Some [] ∷
    Some (operand.Local ∷ []) ∷
    Some (operand.Cell ∷ []) ∷
    []

unfoldable pub operands_of : ℕ → Option (List Operand)
operands_of number = slice_index_or operations number None

-- the bytes behind operands that are each below its bound
abbrev pub operands_at : Within → List Operand → List ℕ → Result (List ℕ) Bad
operands_at within [] bytes = Ok bytes
operands_at within (o ∷ os) bytes = below_at (bound within o) bytes >>= λ n. operands_at within os n.1

-- the bytes behind an instruction, of the so many that are left to instructions, and how many are left then
abbrev pub behind_operation : Within → (left : ℕ) → (bytes rest : List ℕ) → Option (List Operand) → Result (List ℕ × ℕ) Bad
behind_operation within left bytes rest None = Err (bad.Field (length bytes))
behind_operation within left bytes rest (Some os) =
    if nat_lt left (1 + 4 * length os) then Err (bad.Field (length bytes)) else (operands_at within os rest >>= λ behind. Ok (behind, left - (1 + 4 * length os)))

unfoldable pub instr_at : Within → (left : ℕ) → List ℕ → Result (List ℕ × ℕ) Bad
instr_at within left [] = Err bad.Short
instr_at within left (n ∷ rest) = behind_operation within left (n ∷ rest) rest (operands_of n)

-- instructions one by one until none of their bytes is left; there are at most so many
abbrev pub pass : Within → (most left : ℕ) → List ℕ → Result (List ℕ) Bad
pass within zero left bytes = Ok bytes
pass within (suc most) left bytes = if nat_eq left 0 then Ok bytes else (instr_at within left bytes >>= λ i. pass within most i.1 i.0)

unfoldable pub instructions_at : Within → List ℕ → Read (List ℕ)
instructions_at within bytes = do
  count ← kept (nat_lt 0) number_at bytes
  behind ← pass within count.0 count.0 count.1
  taken_at count.0 count.1

unfoldable pub block_at : Within → List ℕ → Read CodeBlock
block_at within =
    made (λ b. record { name = b.0.name; kind = b.0.kind; first_line = b.0.first_line; parameters = b.0.parameters; rest = b.0.rest; keyword_only = b.0.keyword_only; locals = b.1.0.locals; cells = b.1.0.cells; free = b.1.0.free; instructions = b.1.1.0; marks = b.1.1.1.marks; handlers = b.1.1.1.handlers; starts = b.1.1.1.starts })
    (both (signature_at within) λ s. both (names_at within s) λ n. both (instructions_at (naming within n)) λ _. tables_at)

-- the first of the blocks is the module, and there is one at least
unfoldable pub blocks_at : (texts constants lists : ℕ) → List ℕ → Read (List CodeBlock)
blocks_at texts constants lists bytes = do
  count ← kept (nat_lt 0) number_at bytes
  first ← block_at (inside texts constants lists count.0 true) count.1
  more ← items_at (block_at (inside texts constants lists count.0 false)) (count.0 - 1) first.1
  Ok (first.0 ∷ more.0, more.1)

unfoldable pub fields_at : List ℕ → Read Code
fields_at =
    made (λ c. record { texts = c.0; constants = c.1.0; lists = c.1.1.0; blocks = c.1.1.1 })
    (both (list_at text_at) λ ts. both (list_at (const_at (length ts))) λ ks. both (list_at (list_at (below_at (length ts)))) λ ls. blocks_at (length ts) (length ks) (length ls))

-- the bytes behind one that is expected
unfoldable pub behind_byte : ℕ → List ℕ → Result (List ℕ) Bad
behind_byte expected bytes = do
  b ← byte_at bytes
  if nat_eq b.0 expected then Ok b.1 else Err bad.Magic

unfoldable pub behind_version : List ℕ → Result (List ℕ) Bad
behind_version bytes = do
  b ← byte_at bytes
  if nat_eq b.0 1 then Ok b.1 else Err (bad.Version b.0)

unfoldable pub behind_magic : List ℕ → Result (List ℕ) Bad
behind_magic bytes = behind_byte 0x50 bytes >>= behind_byte 0x54 >>= behind_byte 0x43 >>= behind_byte 0x46 >>= behind_version

-- all of the bytes
unfoldable pub code_of : List ℕ → Result Code Bad
code_of bytes = do
  fields ← behind_magic bytes
  c ← fields_at fields
  if nat_eq (length c.1) 0 then Ok c.0 else Err (bad.Trailing (length c.1))
