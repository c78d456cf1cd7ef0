-- What laws say of the exits of loops in the code of a script.
use Rattle.std.specs.Prelude.{◌≡◌, ℕ, slice_get, Some, None}
use Rattle.std.specs.List.{AllByRecursion}
use Rattle.pt_tree.specs.Syntax.{Stms}
use Rattle.pt_tree.specs.Blocks.{Block, blocks_script}
use Rattle.pt_scopes.specs.Mentions.{places_script}
use Rattle.pt_scopes.specs.Refusals.{fault_of}
use Rattle.pt_instr.specs.Encoding.{Fits as InstrFits}
use Rattle.sem_code.specs.slots.CodeObject.{CodeObject}
use Rattle.sem_code.specs.slots.BlockObject.{IsBlockObject}
use Rattle.pt_assembler.specs.Layout.{instrs_of}
use Rattle.pt_assembler.specs.Laws.{Shows}
use Rattle.law_typed_pieces.specs.law_operands.law_files.sem_compile.stm_pieces.Names.{Code_named}
use Rattle.law_typed_pieces.specs.law_operands.law_files.sem_compile.compile.ScriptCode.{BlockLayout, code_block, code_of, script_layouts}
use Rattle.law_typed_pieces.specs.script_tables.Laws.{around_block, block_in, TakesAll}
use Rattle.pt_bare_code.specs.law_code_runs.code_follows.Laws.{ExitsAreReached}
use Rattle.law_compile.specs.loop_exits.Parts.{CodeHasParts}

-- a block of a script, whose names are found as its pieces ask and whose statements have their parts; and a code object of it, where each operand has room in
-- the bytes
pub record HasLayout {V : Type 0} (ss : Stms) (n : ℕ) (k : Block) (b : BlockLayout) (object : CodeObject V) : Type 0 where
  pub is_block : slice_get (blocks_script ss) n ≡ Some k
  pub is_layout : slice_get (script_layouts ss) n ≡ Some b
  pub fits : AllByRecursion InstrFits (instrs_of b.written)
  pub is_object : IsBlockObject (code_of ss) (code_block b) object
  pub named : Code_named (around_block ss n) k.code
  pub takes : TakesAll ss n (block_in ss b object)
  pub parts : CodeHasParts k.code

abbrev pub ScriptExitsAreReached : (V : Type 0) → Type 0
ScriptExitsAreReached V = (ss : Stms) (n : ℕ) (k : Block) (b : BlockLayout) (object : CodeObject V) → fault_of (places_script ss) ≡ None
    → HasLayout ss n k b object → ExitsAreReached b object

abbrev pub BlocksAreShown : (V : Type 0) → Type 0
BlocksAreShown V = (ss : Stms) (n : ℕ) (k : Block) (b : BlockLayout) (object : CodeObject V) → fault_of (places_script ss) ≡ None
    → HasLayout ss n k b object → Shows b.written (code_of ss) (code_block b) object
