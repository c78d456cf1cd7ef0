-- What laws say of which code of scripts fits.
use Rattle.std.specs.Prelude.{◌≡◌, ◌≤◌, ℕ, List, slice_get, Option, Some, None}
use Rattle.std.specs.List.{AllByRecursion}
use Rattle.pt_tree.specs.Syntax.{Stms}
use Rattle.sem_control.specs.numbering.Numbered.{IsNumbered}
use Rattle.pt_scopes.specs.Mentions.{places_script}
use Rattle.pt_scopes.specs.Refusals.{fault_of}
use Rattle.pt_instr.specs.Encoding.{Fits as InstrFits}
use Rattle.pt_code.specs.declared.CodeBlock.{CodeBlock}
use Rattle.pt_code.specs.declared.Code.{Code}
use Rattle.pt_code.specs.View.{Ins, IsView}
use Rattle.pt_assembler.specs.Layout.{instrs_of}
use Rattle.sem_fits.specs.fits.Block.{Block, block_of}
use Rattle.sem_fits.specs.fits.Fits.{Fits, MOST, TooDeep}
use Rattle.pt_verify_depths.specs.Sizes.{Sized}
use Rattle.law_typed_pieces.specs.law_operands.law_files.sem_compile.compile.ScriptCode.{BlockLayout, code_block, code_of, script_layouts}
use Rattle.law_typed_pieces.specs.law_operands.law_files.code_files.Numbers.{NumbersFit}
use Rattle.pt_bare_code.specs.law_code_runs.code_follows.Laws.{HasItsFreeNames}
use Rattle.law_compile.specs.formed.Formed.{StmsFormed}
use Rattle.law_typed_pieces.specs.law_operands.law_files.operands_fit.Laws.{CellsFit}
use Rattle.pt_front.specs.Text.{IsScript}

-- it fits if no place gets more than 16,777,216 slots
abbrev pub FitsIfShallow : Block → Type 0
FitsIfShallow b = (TooDeep b → ⊥) → Fits b

-- each block of a code fits, as it is seen
abbrev pub CodeFits : Code → Type 0
CodeFits c = (n : ℕ) (b : CodeBlock) → slice_get c.blocks n ≡ Some b → (view : ℕ → Option Ins)
    → IsView b view → Fits (block_of c b view)

-- no place is too deep where no size is
abbrev pub SizesTellTheDepth : Type 0
SizesTellTheDepth = (b : Block) → ((pc n : ℕ) → Sized b b.size pc n → n ≤ MOST) → TooDeep b → ⊥

-- each block of the code of a script that has the form which the grammar gives it and no fault in its declarations, where its operands have room
abbrev pub BlocksOfScriptsFit : Type 0
BlocksOfScriptsFit = (ss : Stms) → fault_of (places_script ss) ≡ None → IsNumbered ss → StmsFormed ss → HasItsFreeNames ss → (n : ℕ) (b : BlockLayout)
    → slice_get (script_layouts ss) n ≡ Some b → AllByRecursion InstrFits (instrs_of b.written) → (view : ℕ → Option Ins) → IsView (code_block b) view
    → FitsIfShallow (block_of (code_of ss) (code_block b) view)

-- each block of the code of a text that is a script, where its operands have room
abbrev pub BlocksOfTextsFit : Type 0
BlocksOfTextsFit = (text : List ℕ) (script : Stms) → IsScript text script → (n : ℕ) (b : BlockLayout)
    → slice_get (script_layouts script) n ≡ Some b → AllByRecursion InstrFits (instrs_of b.written)
    → (view : ℕ → Option Ins) → IsView (code_block b) view
    → FitsIfShallow (block_of (code_of script) (code_block b) view)

-- so it is where the counts of its tables and bytes have room
abbrev pub CodeOfTextsFits : Type 0
CodeOfTextsFits = (text : List ℕ) (script : Stms) → IsScript text script → NumbersFit (code_of script) → CellsFit (code_of script) → (n : ℕ) (b : CodeBlock)
    → slice_get (code_of script).blocks n ≡ Some b → (view : ℕ → Option Ins) → IsView b view → FitsIfShallow (block_of (code_of script) b view)
