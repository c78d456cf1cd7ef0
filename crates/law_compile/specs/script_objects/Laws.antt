-- What is asked of the code objects of a script that is read, so that its code follows it.
use Rattle.std.specs.Prelude.{◌≡◌, ℕ, slice_get, Some, None}
use Rattle.std.specs.List.{AllByRecursion}
use Rattle.pt_tree.specs.Syntax.{Stms}
use Rattle.pt_tree.specs.Blocks.{Block, blocks_script}
use Rattle.pt_wide.specs.Syntax as wide
use Rattle.pt_refine_expr.specs.StatementNarrow.{narrow_script}
use Rattle.pt_scopes.specs.Mentions.{places_script}
use Rattle.pt_scopes.specs.Refusals.{fault_of}
use Rattle.sem_names.specs.Around.{around_of}
use Rattle.pt_instr.specs.Encoding.{Fits as InstrFits}
use Rattle.sem_code.specs.slots.CodeObject.{CodeObject}
use Rattle.sem_code.specs.slots.BlockObject.{IsBlockObject}
use Rattle.pt_assembler.specs.Layout.{instrs_of}
use Rattle.law_typed_pieces.specs.law_operands.law_files.sem_compile.stm_pieces.Laws.{KnowsTruths}
use Rattle.law_typed_pieces.specs.law_operands.law_files.sem_compile.compile.ScriptCode.{BlockLayout, code_block, code_of, script_layouts}
use Rattle.sem_run.specs.run.Machine.{BlockId}
use Rattle.sem_run.specs.run.Source.{Source}
use Rattle.pt_bare_code.specs.law_code_runs.code_run.CodeMachine.{CodeSource}
use Rattle.pt_bare_code.specs.law_code_runs.code_run.Law.{IsCodeOf}
use Rattle.pt_bare_code.specs.law_code_runs.code_follows.Laws.{HasItsFreeNames, HasObject, iterates}
use Rattle.law_typed_pieces.specs.law_operands.free_names.FreeNames.{ClassNameIsUnused}
use Rattle.law_compile.specs.formed.Formed.{StmsFormed}
use Rattle.law_compile.specs.formed_scripts.Wide as formed

-- a block of a script; its layout in the code of the script, where each operand has room in the bytes; and a code object of that over values with a None,
-- which knows its truths
pub record HasCode {V : Type 0} (null : V) (ss : Stms) (n : ℕ) (block : Block) (object : CodeObject V) : Type 0 where
  pub is_block : slice_get (blocks_script ss) n ≡ Some block
  pub layout : BlockLayout
  pub is_layout : slice_get (script_layouts ss) n ≡ Some layout
  pub fits : AllByRecursion InstrFits (instrs_of layout.written)
  pub is_object : IsBlockObject (code_of ss) (code_block layout) object
  pub same_null : object.null ≡ null
  pub knows_truths : KnowsTruths object

-- such an object is one of the block, where the script has the form that the grammar gives it
abbrev pub ObjectsHaveTheirCode : (V : Type 0) → Type 0
ObjectsHaveTheirCode V = (null : V) (ss : Stms) (n : ℕ) (block : Block) (object : CodeObject V) → fault_of (places_script ss) ≡ None → StmsFormed ss
    → HasItsFreeNames ss → HasCode null ss n block object → HasObject null ss n block object

-- a block of a source is one of the script, and its code object is one of the script's code
pub record IsInScript {V : Type 0} (null : V) (ss : Stms) (source : Source V) (code : CodeSource V) (b : BlockId) : Type 0 where
  pub number : ℕ
  pub block : Block
  pub has_code : HasCode null ss number block (code.object b)
  pub same_code : source.code b ≡ block.code
  pub same_around : source.around b ≡ around_of null ss number
  pub same_start : code.iterates b ≡ iterates block.code

-- of a script that a wide tree is: the wide tree is what the parser gives, and the compiler asks that declarations have no fault. No name is `.class`,
-- which isn't an identifier
abbrev pub ReadScriptIsFollowed : (V : Type 0) → Type 0
ReadScriptIsFollowed V = (null : V) (script : wide.Stms) (ss : Stms) (source : Source V) (code : CodeSource V) → narrow_script script ≡ Some ss
    → formed.StmsFormed script → fault_of (places_script ss) ≡ None → ClassNameIsUnused ss → ((b : BlockId) → IsInScript null ss source code b) → IsCodeOf source code
