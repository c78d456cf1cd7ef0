-- How many slots lie at the places of a script's code.
use Rattle.std.specs.Prelude.{◌≡◌, ℕ, slice_get, Some, None}
use Rattle.std.specs.List.{AllByRecursion}
use Rattle.pt_tree.specs.Syntax.{Stms}
use Rattle.pt_tree.specs.Blocks.{Block, blocks_script}
use Rattle.pt_instr.specs.Encoding.{Fits as InstrFits}
use Rattle.pt_code.specs.View.{IsView}
use Rattle.pt_scopes.specs.Mentions.{places_script}
use Rattle.pt_scopes.specs.Refusals.{fault_of}
use Rattle.sem_code.specs.slots.CodeObject.{CodeObject}
use Rattle.sem_code.specs.slots.BlockObject.{SlotsAt, pool_of, slots_at_start}
use Rattle.sem_fits.specs.fits.Block as F
use Rattle.pt_verify_depths.specs.Sizes.{Sized}
use Rattle.pt_verify_depths.specs.PlaceTable.{SizesDisagree}
use Rattle.pt_assembler.specs.Layout.{instrs_of}
use Rattle.law_typed_pieces.specs.law_operands.law_files.sem_compile.stm_pieces.Names.{Code_named}
use Rattle.law_typed_pieces.specs.law_operands.law_files.sem_compile.compile.ScriptCode.{BlockLayout, code_block, code_of, script_layouts}
use Rattle.law_typed_pieces.specs.script_tables.Laws.{around_block, block_in, TakesAll}
use Rattle.law_compile.specs.loop_exits.Parts.{CodeHasParts}

-- a block of a script, whose names are found as its pieces ask and whose statements have their parts; and an object that sees its instructions, where each
-- operand has room in the bytes, and names what its numbers name, whatever it knows of slots
pub record IsSeenIn {V : Type 0} (ss : Stms) (n : ℕ) (k : Block) (b : BlockLayout) (object : CodeObject V) : Type 0 where
  pub is_block : slice_get (blocks_script ss) n ≡ Some k
  pub is_layout : slice_get (script_layouts ss) n ≡ Some b
  pub fits : AllByRecursion InstrFits (instrs_of b.written)
  pub view : IsView (code_block b) object.at
  pub pool : object.pool ≡ pool_of (code_of ss) (code_block b)
  pub named : Code_named (around_block ss n) k.code
  pub takes : TakesAll ss n (block_in ss b object)
  pub parts : CodeHasParts k.code

-- sizes agree, and each number of slots with which some way comes to a place is its size
pub record HasItsSizes {V : Type 0} (b : F.Block) (object : CodeObject V) : Type 0 where
  pub agree : (p : ℕ) → SizesDisagree b p → ⊥
  pub sized : (pc n : ℕ) → SlotsAt object.at object.pool (slots_at_start b.kind) pc n → Sized b b.size pc n

abbrev pub ScriptHasItsSizes : (V : Type 0) → Type 0
ScriptHasItsSizes V = (ss : Stms) (n : ℕ) (k : Block) (b : BlockLayout) (object : CodeObject V) → fault_of (places_script ss) ≡ None
    → IsSeenIn ss n k b object → HasItsSizes (block_in ss b object) object
