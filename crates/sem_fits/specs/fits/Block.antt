-- A block of code, as it is asked whether it fits (Library Reference, "dis"; "inspect": code objects).
use Rattle.std.specs.Prelude.{◌+◌, ℕ, List, [], ◌∷◌, length, map, take, slice_get, slice_index_or, Option, Some, None, option_map}
use Rattle.pt_tree.specs.Syntax.{Name}
use Rattle.pt_instr.specs.declared.Instr.{Instr}
use Rattle.pt_instr.specs.declared.Instr.TheVariants as instr
use Rattle.pt_instr.specs.declared.effects.Effect.{Effect}
use Rattle.pt_instr.specs.declared.kinds.Kind.TheVariants.{Iter}
use Rattle.pt_instr.specs.Effects.{Kinds, effect_of}
use Rattle.pt_ranges.specs.declared.lines.ActMark.{ActMark}
use Rattle.pt_ranges.specs.declared.handlers.Handler.{Handler}
use Rattle.pt_code.specs.declared.BlockKind.{BlockKind}
use Rattle.pt_code.specs.declared.BlockKind.TheVariants as block
use Rattle.pt_code.specs.declared.Start.{Start}
use Rattle.pt_code.specs.declared.CodeBlock.{CodeBlock}
use Rattle.pt_code.specs.declared.Code.{Code}
use Rattle.pt_code.specs.View.{Ins}
use Rattle.sem_code.specs.slots.BlockObject.{free_in}

-- what the numbers in operands name outside of the block: of another block its kind, how many cells it takes along, and its parameters that are
-- plain or keyword-only; of a list its texts
pub record Links : Type 0 where
  pub kind : (block : ℕ) → Option BlockKind
  pub captures : (block : ℕ) → ℕ
  pub parameters : (block : ℕ) → List Name
  pub texts : (list : ℕ) → List Name

-- what stands at each place, how many bytes the instructions have, and the tables
pub record Block : Type 0 where
  pub at : (pc : ℕ) → Option Ins
  pub size : ℕ
  pub kind : BlockKind
  pub links : Links
  pub marks : List ActMark
  pub handlers : List Handler
  pub starts : List Start

-- the kinds of the slots with which a block starts: that of a generator expression has its first iterator (6.2.8)
abbrev pub kinds_at_start : BlockKind → Kinds
kinds_at_start block.GeneratorExpression = Iter ∷ []
kinds_at_start k = []

-- how many cells the block takes along that an instruction names
abbrev pub captured : Links → Instr → ℕ
captured links (instr.MakeFunction b n l) = links.captures b.0
captured links (instr.MakeClass b) = links.captures b.0
captured links (instr.MakeGenerator b) = links.captures b.0
captured links i = 0

abbrev pub effect : Links → Instr → Effect
effect links i = effect_of i (captured links i)

-- what the blocks, lists and texts of a code are to each of its blocks

-- the names of the parameters stand first among the locals, the plain ones before the keyword-only ones
abbrev pub parameters_of : (texts : List Name) → Option CodeBlock → List Name
parameters_of texts (Some b) = map (λ t. slice_index_or texts t.0 []) (take (b.parameters + b.keyword_only) b.locals)
parameters_of texts None = []

abbrev pub links_of : Code → Links
links_of c = record {
  kind = λ n. option_map (λ b. b.kind) (slice_get c.blocks n);
  captures = λ n. free_in (slice_get c.blocks n);
  parameters = λ n. parameters_of c.texts (slice_get c.blocks n);
  texts = λ n. map (λ t. slice_index_or c.texts t []) (slice_index_or c.lists n []);
}

-- a block of a code whose instructions are seen so
abbrev pub block_of : Code → CodeBlock → (view : ℕ → Option Ins) → Block
block_of c b view = record {
  at = view;
  size = length b.instructions;
  kind = b.kind;
  links = links_of c;
  marks = b.marks;
  handlers = b.handlers;
  starts = b.starts;
}
