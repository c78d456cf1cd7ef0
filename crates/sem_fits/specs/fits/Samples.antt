-- Code that fits, and code that doesn't, as rows.
use Rattle.std.specs.Prelude.{ℕ, List, [], ◌∷◌, Bool, false}
use Rattle.std.specs.List.{flat_map}
use Rattle.pt_base.specs.declared.operators.BinOp.TheVariants.{Add}
use Rattle.pt_ranges.specs.declared.handlers.Handler.{Handler}
use Rattle.pt_instr.specs.declared.Instr.{Instr}
use Rattle.pt_instr.specs.declared.Instr.TheVariants as instr
use Rattle.pt_instr.specs.Encoding.{encoding}
use Rattle.pt_code.specs.declared.Const.TheVariants as const
use Rattle.pt_code.specs.declared.BlockKind.{BlockKind}
use Rattle.pt_code.specs.declared.BlockKind.TheVariants as kind
use Rattle.pt_code.specs.declared.CodeBlock.{CodeBlock}
use Rattle.pt_code.specs.declared.Code.{Code}
use Rattle.pt_code.specs.View.{laid_from}
use Rattle.sem_fits.specs.fits.Block.{Block, block_of}

-- a block with these instructions and handlers, and no names
abbrev pub plain : BlockKind → List Handler → List Instr → CodeBlock
plain k rows is = record {
  name = record { 0 = 0 };
  kind = k;
  first_line = record { 0 = 1 };
  parameters = 0;
  rest = record { positional = false; named = false };
  keyword_only = 0;
  locals = [];
  cells = [];
  free = [];
  instructions = flat_map encoding is;
  marks = [];
  handlers = rows;
  starts = [];
}

-- a code of one text, None and one block
abbrev pub alone : CodeBlock → Code
alone b = record { texts = (109 ∷ []) ∷ []; constants = const.None ∷ []; lists = []; blocks = b ∷ [] }

abbrev pub module_of : List Handler → List Instr → Block
module_of rows is = block_of (alone (plain kind.Module rows is)) (plain kind.Module rows is) (laid_from (plain kind.Module rows is) 0 is)

abbrev pub handler : (from to target depth : ℕ) → (always : Bool) → Handler
handler f t g d a = record { from = record { 0 = f }; to = record { 0 = t }; target = record { 0 = g }; depth = d; always = a }

abbrev pub load_none : Instr
load_none = instr.Const (record { 0 = 0 })

-- None is returned
abbrev pub returns_none : List Instr
returns_none = load_none ∷ instr.Return ∷ []

-- a value is let go on as if it were a completion
abbrev pub ends_value : List Instr
ends_value = load_none ∷ instr.EndFinally ∷ []

-- a loop in which no act begins
abbrev pub jumps_to : ℕ → List Instr
jumps_to t = instr.Jump (record { 0 = t }) ∷ []

-- a Leave that an always row takes, which cuts off what its target needs
abbrev pub held_leave : List Instr
held_leave =
    load_none ∷ load_none ∷ instr.JumpIf (record { 0 = 20 }) ∷ instr.Leave (record { 0 = 20 }) ∷ instr.Return ∷ instr.EndFinally ∷
    load_none ∷ instr.Return ∷
    []

-- each time round one more value lies at the beginning
abbrev pub grows : List Instr
grows = load_none ∷ instr.Jump (record { 0 = 0 }) ∷ []

-- nothing lies there to be dropped; a handler stands behind
abbrev pub drops_nothing : List Instr
drops_nothing = instr.Pop ∷ load_none ∷ instr.Return ∷ instr.EndHandler ∷ load_none ∷ instr.Return ∷ []

-- an iterator alone, where two values are taken
abbrev pub adds_iterator : List Instr
adds_iterator = load_none ∷ instr.Iter ∷ instr.Binary Add ∷ load_none ∷ instr.Return ∷ []

-- an iterator is dropped, and nothing stands behind
abbrev pub drops_iterator : List Instr
drops_iterator = load_none ∷ instr.Iter ∷ instr.Pop ∷ []
