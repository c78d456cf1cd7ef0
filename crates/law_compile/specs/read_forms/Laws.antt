-- What a text that is a script is known to be.
use Rattle.std.specs.Prelude.{◌≡◌, ℕ, List, slice_get, Some}
use Rattle.std.specs.List.{AllByRecursion}
use Rattle.pt_tree.specs.Syntax.{Stms}
use Rattle.pt_tree.specs.Blocks.{Block, blocks_script}
use Rattle.pt_wide.specs.Syntax as wide
use Rattle.pt_refine_expr.specs.StatementNarrow.{narrow_script}
use Rattle.pt_instr.specs.Encoding.{Fits as InstrFits}
use Rattle.sem_code.specs.slots.CodeObject.{CodeObject}
use Rattle.pt_assembler.specs.Layout.{instrs_of}
use Rattle.law_typed_pieces.specs.law_operands.law_files.sem_compile.compile.ScriptCode.{BlockLayout, code_of, script_layouts}
use Rattle.law_typed_pieces.specs.law_operands.law_files.code_files.Numbers.{NumbersFit}
use Rattle.law_typed_pieces.specs.law_operands.free_names.FreeNames.{ClassNameIsUnused}
use Rattle.law_compile.specs.formed_scripts.Wide as formed
use Rattle.law_compile.specs.script_objects.Laws.{HasCode}
use Rattle.law_compile.specs.read_runs.Laws.{IsReadWith}
use Rattle.pt_front.specs.Text.{IsScript}
use Rattle.law_typed_pieces.specs.law_operands.law_files.operands_fit.Laws.{CellsFit}

-- the wide tree that a script's text is has the form that the grammar gives it, and no name of the script is `.class`
pub record IsWideOf (wide_tree : wide.Stms) (script : Stms) : Type 0 where
  pub is_script : narrow_script wide_tree ≡ Some script
  pub is_formed : formed.StmsFormed wide_tree
  pub class_name_is_unused : ClassNameIsUnused script

abbrev pub ScriptsOfTextsAreFormed : Type 0
ScriptsOfTextsAreFormed = (text : List ℕ) (script : Stms) → IsScript text script → (wide_tree : wide.Stms) × IsWideOf wide_tree script

-- so it is read with the code objects of its blocks
abbrev pub ScriptsOfTextsAreRead : (V : Type 0) → Type 0
ScriptsOfTextsAreRead V = (null : V) (text : List ℕ) (script : Stms) (object : ℕ → CodeObject V) → IsScript text script
    → ((n : ℕ) (block : Block) → slice_get (blocks_script script) n ≡ Some block → HasCode null script n block (object n))
    → (wide_tree : wide.Stms) × IsReadWith null wide_tree script object

-- Each operand of its code fits in four bytes, if the counts of the code's tables and bytes do.
abbrev pub OperandsOfTextsFit : Type 0
OperandsOfTextsFit = (text : List ℕ) (script : Stms) (n : ℕ) (layout : BlockLayout) → IsScript text script → NumbersFit (code_of script)
    → CellsFit (code_of script)
    → slice_get (script_layouts script) n ≡ Some layout → AllByRecursion InstrFits (instrs_of layout.written)
