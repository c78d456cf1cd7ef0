-- What laws say of the code of a script beside the script.
use Rattle.std.specs.Prelude.{◌≡◌, ℕ, Bool, true, false, List, ◌∷◌, ◌++◌, length, slice_get, Option, Some, None}
use Rattle.std.specs.List.{AllByRecursion}
use Rattle.pt_tree.specs.Syntax.{Stms}
use Rattle.pt_tree.specs.Blocks as B
use Rattle.pt_tree.specs.Blocks.{Block, Code, blocks_script}
use Rattle.pt_scopes.specs.Mentions.{places_script}
use Rattle.pt_scopes.specs.Refusals.{fault_of}
use Rattle.sem_names.specs.Around.{around_of, names_of}
use Rattle.sem_code.specs.slots.CodeObject.{CodeObject}
use Rattle.sem_code.specs.slots.BlockObject.{free_in, IsBlockObject, SlotsAt, slots_at_start}
use Rattle.pt_instr.specs.Encoding.{Fits as InstrFits}
use Rattle.pt_assembler.specs.declared.operation.Act.{Act}
use Rattle.pt_assembler.specs.declared.operation.Jump.TheVariants.{Leave}
use Rattle.pt_assembler.specs.declared.operation.Label.{Label}
use Rattle.pt_assembler.specs.declared.operation.Operation.TheVariants.{To}
use Rattle.pt_assembler.specs.declared.operation.Placed.{Placed}
use Rattle.pt_assembler.specs.Layout.{instrs_of, label_at}
use Rattle.sem_compile.specs.stm_pieces.Laws.{Code_at, Begins, KnowsTruths}
use Rattle.law_operands.specs.piece_names.Laws.{HasPlainArguments}
use Rattle.sem_compile.specs.compile.ScriptCode.{BlockLayout, code_block, code_of, script_layouts}
use Rattle.sem_run.specs.run.Machine.{BlockId}
use Rattle.sem_run.specs.run.Source.{Source}
use Rattle.law_code_runs.specs.code_run.CodeMachine.{CodeSource}
use Rattle.law_code_runs.specs.code_run.Law.{IsCodeOf}

-- each block of a script's code has as many free names as the script's block is said to have (4.2.2)
abbrev pub HasItsFreeNames : Stms → Type 0
HasItsFreeNames ss = (n : ℕ) (layout : BlockLayout) → slice_get (script_layouts ss) n ≡ Some layout → length layout.written.free ≡ length (names_of ss n).frees

-- so a block takes as many cells along as its code has free names
abbrev pub FreeNamesHaveCells : Type 0
FreeNamesHaveCells = (ss : Stms) (n m : ℕ) → HasItsFreeNames ss
    → free_in (slice_get (code_of ss).blocks m) ≡ length ((around_of {V = Unit {0}} tt ss n).captured m)

-- where an instruction leaves a loop to, some way comes to, with as many slots as its label says
abbrev pub ExitsAreReached : {V : Type 0} → BlockLayout → CodeObject V → Type 0
ExitsAreReached b object = (before behind : List Placed) (k : Label) (a : Option Act)
    → b.written.instrs ≡ before ++ record { operation = To Leave k; act = a } ∷ behind
    → SlotsAt object.at object.pool (slots_at_start b.heading.kind) (label_at b.written k).pc.0 (label_at b.written k).depth

-- a block of a script, whose arguments are plain; its layout in the code of the script, of instructions that have bytes; and a code object of that
-- over values with a None, which knows its truths
pub record HasObject {V : Type 0} (null : V) (ss : Stms) (n : ℕ) (block : Block) (object : CodeObject V) : Type 0 where
  pub is_block : slice_get (blocks_script ss) n ≡ Some block
  pub layout : BlockLayout
  pub is_layout : slice_get (script_layouts ss) n ≡ Some layout
  pub fits : AllByRecursion InstrFits (instrs_of layout.written)
  pub is_object : IsBlockObject (code_of ss) (code_block layout) object
  pub exits : ExitsAreReached layout object
  pub same_null : object.null ≡ null
  pub knows_truths : KnowsTruths object
  pub plain : HasPlainArguments null block.code

-- the object has the code of what the block runs, and comes from its beginning to where it is in step with control
abbrev pub BlocksHaveTheirCode : (V : Type 0) → Type 0
BlocksHaveTheirCode V = (null : V) (ss : Stms) (n : ℕ) (block : Block) (object : CodeObject V) → fault_of (places_script ss) ≡ None → HasItsFreeNames ss
    → (h : HasObject null ss n block object)
    → Code_at (around_of null ss n) object (code_block h.layout).starts block.code × Begins (around_of null ss n) object block.code

abbrev pub iterates : Code → Bool
iterates (B.of_generator l e k t cs) = true
iterates c = false

-- a block of a source is one of the script, and its code object is one of that block
pub record IsOfScript {V : Type 0} (null : V) (ss : Stms) (source : Source V) (code : CodeSource V) (b : BlockId) : Type 0 where
  pub number : ℕ
  pub block : Block
  pub has_object : HasObject null ss number block (code.object b)
  pub same_code : source.code b ≡ block.code
  pub same_around : source.around b ≡ around_of null ss number
  pub same_start : code.iterates b ≡ iterates block.code

-- where the blocks of a source are those of a script, and the code objects those of its code, each stands for its block
abbrev pub ScriptHasItsCode : (V : Type 0) → Type 0
ScriptHasItsCode V = (null : V) (ss : Stms) (source : Source V) (code : CodeSource V) → fault_of (places_script ss) ≡ None → HasItsFreeNames ss
    → ((b : BlockId) → IsOfScript null ss source code b) → IsCodeOf source code
