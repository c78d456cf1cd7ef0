-- The code object of a block of a code file: what stands at each place, what the numbers in operands name, and how many slots lie at each place
-- (Library Reference, "inspect": code objects; "dis").
use Rattle.std.specs.Prelude.{◌≡◌, ◌≤◌, ◌+◌, ◌-◌, ℕ, suc, List, [], length, map, nat_lt, slice_get, slice_index_or, true, false, Option, Some, None, if◌then◌else◌}
use Rattle.std.specs.List.{Contains}
use Rattle.pt_ranges.specs.declared.handlers.Handler.{Handler}
use Rattle.pt_tree.specs.declared.expression.Constant.{Constant}
use Rattle.pt_tree.specs.declared.expression.Constant.TheVariants as constant
use Rattle.pt_tree.specs.Syntax.{Name}
use Rattle.pt_instr.specs.declared.TextNo.{TextNo}
use Rattle.pt_instr.specs.declared.Instr.{Instr}
use Rattle.pt_instr.specs.declared.Instr.TheVariants as instr
use Rattle.pt_instr.specs.Effects.{Kinds}
use Rattle.pt_code.specs.declared.Const.{Const}
use Rattle.pt_code.specs.declared.Const.TheVariants as const
use Rattle.pt_code.specs.declared.BlockKind.{BlockKind}
use Rattle.pt_code.specs.declared.BlockKind.TheVariants as kind
use Rattle.pt_code.specs.declared.CodeBlock.{CodeBlock}
use Rattle.pt_code.specs.declared.Code.{Code}
use Rattle.pt_code.specs.View.{Ins, IsView}
use Rattle.sem_control.specs.control.Turn as T
use Rattle.sem_control.specs.control.Turn.{Scope, Variable}
use Rattle.sem_code.specs.slots.CodeObject.{Pool, CodeObject, named}
use Rattle.sem_code.specs.slots.Needs.{needs}

-- A number that is in no list names None, the empty text, no texts; in a code that has a file there is none.

abbrev pub text_in : (texts : List Name) → ℕ → Name
text_in ts t = slice_index_or ts t []

abbrev pub constant_of : (texts : List Name) → Const → Constant
constant_of ts const.None = constant.None
constant_of ts const.False = constant.Bool false
constant_of ts const.True = constant.Bool true
constant_of ts (const.Int n) = constant.Int n
constant_of ts (const.Text t) = constant.Str (text_in ts t.0)
constant_of ts const.Ellipsis = constant.Ellipsis

abbrev pub name_in : (texts : List Name) → List TextNo → ℕ → Name
name_in ts xs i = text_in ts (slice_index_or xs i (record { 0 = length ts })).0

-- the cell names are counted first, and then the free ones (4.2.2)
abbrev pub variable_in : (texts : List Name) → (cells free : List TextNo) → ℕ → Variable
variable_in ts cs fs i =
    if nat_lt i (length cs) then named T.cell (name_in ts cs i) else named T.free (name_in ts fs (i - length cs))

-- a block takes a cell along for each of its free names
abbrev pub free_in : Option CodeBlock → ℕ
free_in None = 0
free_in (Some b) = length b.free

abbrev pub scope_of : BlockKind → Scope
scope_of kind.Class = T.of_class
scope_of k = T.global

abbrev pub pool_of : Code → CodeBlock → Pool
pool_of c b = record {
  constant = λ k. constant_of c.texts (slice_index_or c.constants k const.None);
  text = text_in c.texts;
  texts = λ l. map (text_in c.texts) (slice_index_or c.lists l []);
  local = name_in c.texts b.locals;
  cell = variable_in c.texts b.cells b.free;
  captures = λ n. free_in (slice_get c.blocks n);
  name_scope = scope_of b.kind;
}

-- a generator expression starts with its first iterator (6.2.8)
abbrev pub slots_at_start : BlockKind → ℕ
slots_at_start kind.GeneratorExpression = 1
slots_at_start k = 0

-- where an instruction goes on to beside the place behind it
abbrev pub target_of : Instr → Option ℕ
target_of (instr.Next t) = Some t.0
target_of (instr.Jump t) = Some t.0
target_of (instr.JumpIf t) = Some t.0
target_of (instr.JumpUnless t) = Some t.0
target_of (instr.JumpIfKeep t) = Some t.0
target_of (instr.JumpUnlessKeep t) = Some t.0
target_of i = None

-- some way comes to the place with so many slots: from the start, through an instruction that has what it takes, or by a handler row that
-- covers one and cuts no more than lie there
pub data SlotsAt (at : (pc : ℕ) → Option Ins) (pool : Pool) (first : ℕ) : (pc slots : ℕ) → Type 0 where
  at_start : SlotsAt at pool first 0 first
  behind : (pc n : ℕ) (i : Ins) (given : Kinds) → SlotsAt at pool first pc n → at pc ≡ Some i → length (needs pool i.instr).takes ≤ n
      → (needs pool i.instr).gives ≡ Some given → SlotsAt at pool first i.next (n - length (needs pool i.instr).takes + length given)
  aside : (pc n to : ℕ) (i : Ins) (given : Kinds) → SlotsAt at pool first pc n → at pc ≡ Some i → length (needs pool i.instr).takes ≤ n
      → target_of i.instr ≡ Some to → (needs pool i.instr).aside ≡ Some given
      → SlotsAt at pool first to (n - length (needs pool i.instr).takes + length given)
  handled : (pc n : ℕ) (i : Ins) (row : Handler) → SlotsAt at pool first pc n → at pc ≡ Some i → Contains i.rows row
      → row.depth + length (needs pool i.instr).takes ≤ n → SlotsAt at pool first row.target.0 (suc row.depth)

-- a code object is one of a block where it has the view of its bytes, names what its numbers name, and knows how many slots lie at each place to
-- which some way comes. What the values None, True and False are is left to the run
pub record IsBlockObject {V : Type 0} (code : Code) (block : CodeBlock) (object : CodeObject V) : Type 0 where
  pub view : IsView block object.at
  pub pool : object.pool ≡ pool_of code block
  pub depths : (pc n : ℕ) → SlotsAt object.at object.pool (slots_at_start block.kind) pc n → object.depth_at pc ≡ n
