-- When tables made of the code of a prelude and of a script over it are those of both.
use Rattle.std.specs.Prelude.{◌≡◌, ◌<◌, ℕ, Bool, true, false, List, length, slice_get, Some, None}
use Rattle.pt_tree.specs.declared.expression.Constant.TheVariants as constant
use Rattle.pt_tree.specs.Syntax.{Stms}
use Rattle.pt_tree.specs.Blocks.{Block, blocks_script}
use Rattle.pt_wide.specs.Syntax as wide
use Rattle.pt_refine_expr.specs.StatementNarrow.{narrow_script}
use Rattle.pt_scopes.specs.Mentions.{places_script}
use Rattle.pt_scopes.specs.Refusals.{fault_of}
use Rattle.sem_names.specs.Around.{names_of}
use Rattle.pt_heap.specs.declared.value.Value.{Value}
use Rattle.pt_heap.specs.declared.value.Value.TheVariants as value
use Rattle.sem_code.specs.slots.CodeObject.{CodeObject}
use Rattle.law_typed_pieces.specs.law_operands.law_files.sem_compile.compile.ScriptCode.{code_of}
use Rattle.law_typed_pieces.specs.law_operands.law_files.code_files.Numbers.{NumbersFit}
use Rattle.law_typed_pieces.specs.law_operands.law_files.operands_fit.Laws.{CellsFit}
use Rattle.law_typed_pieces.specs.law_operands.free_names.FreeNames.{Among, ClassNameIsUnused}
use Rattle.law_compile.specs.formed_scripts.Wide as formed
use Rattle.law_compile.specs.script_objects.Laws.{HasCode}
use Rattle.law_compile.specs.script_runs.ProgramBlocks.{program_code, text_of}
use Rattle.law_compile.specs.read_runs.Laws.{IsReadWith}
use Rattle.law_supported.specs.Laws.{CellsDiffer}
use Rattle.pt_code_loader.specs.pt_code_tables.Tables.{AreTablesOf}
use Rattle.pt_code_loader.specs.declared.loading.Loaded.{Loaded}
use Rattle.pt_code_loader.specs.Loaded.{IsLoadedProgram}
use Rattle.law_loading.specs.script_program.ScriptProgram.{program_of}
use Rattle.law_loading.specs.script_program.Laws.{BlocksHaveTheirNames}

-- a script that a wide tree is, which the parser gives, without a fault in its declarations. No name is `.class`, which isn't an identifier; counts and
-- numbers of the code fit, as those of cells do with free names; and code has the names that blocks are said to have, of which those of cells are
-- different, and so are free ones
pub record IsLoadable (script : wide.Stms) (ss : Stms) : Type 0 where
  pub is_script : narrow_script script ≡ Some ss
  pub is_formed : formed.StmsFormed script
  pub no_fault : fault_of (places_script ss) ≡ None
  pub class_name_is_unused : ClassNameIsUnused ss
  pub numbers_fit : NumbersFit (code_of ss)
  pub cells_fit : CellsFit (code_of ss)
  pub names : BlocksHaveTheirNames ss
  pub cells_are_different : (n : ℕ) → CellsDiffer (names_of ss n)

-- objects of the code of a prelude and of a script over it, which has a run as these have one; the tables are those of the program and of its code, and its
-- texts are the program's
pub record HasTables (prelude ss : Stms) (l : Loaded) : Type 0 where
  pub object : (hidden : Bool) → ℕ → CodeObject Value
  pub of_blocks : (hidden : Bool) (n : ℕ) (block : Block) → slice_get (blocks_script (text_of prelude ss hidden)) n ≡ Some block
      → HasCode value.None (text_of prelude ss hidden) n block (object hidden n)
  pub tables : AreTablesOf (program_of prelude ss) (program_code prelude ss object) l.tables
  pub texts : (program_of prelude ss).texts ≡ l.texts

-- a prelude and a script over it
pub record AreLoadable (wide_prelude wide_script : wide.Stms) (prelude ss : Stms) : Type 0 where
  pub prelude_is : IsLoadable wide_prelude prelude
  pub script_is : IsLoadable wide_script ss

abbrev pub LoadedScriptHasTables : Type 0
LoadedScriptHasTables = (first script : wide.Stms) (prelude ss : Stms) (l : Loaded) → AreLoadable first script prelude ss
    → IsLoadedProgram (code_of prelude) (code_of ss) l → HasTables prelude ss l

abbrev pub CodeHasItsModule : Type 0
CodeHasItsModule = (ss : Stms) → 0 < length (code_of ss).blocks

-- so both are read with these objects, and have the bare runs of their code
abbrev pub LoadedScriptIsRead : Type 0
LoadedScriptIsRead = (first script : wide.Stms) (prelude ss : Stms) (l : Loaded) → AreLoadable first script prelude ss → (t : HasTables prelude ss l)
    → IsReadWith value.None first prelude (t.object true) × IsReadWith value.None script ss (t.object false)

-- each text of a constant that the code of either gives is one of the program's, and so has its object
abbrev pub ConstantsHaveTheirTexts : Type 0
ConstantsHaveTheirTexts = (prelude ss : Stms) (hidden : Bool) (n : ℕ) (block : Block) (object : CodeObject Value)
    → HasCode value.None (text_of prelude ss hidden) n block object → (k : ℕ) (t : List ℕ)
    → object.pool.constant k ≡ constant.Str t → Among (program_of prelude ss).texts t
