-- When the operands of a script's code fit in their bytes.
use Rattle.std.specs.Prelude.{◌≡◌, ℕ, ◌+◌, ◌<◌, ◌^◌, length, slice_get, Some}
use Rattle.std.specs.List.{AllByRecursion}
use Rattle.pt_tree.specs.Syntax.{Stms}
use Rattle.pt_instr.specs.Encoding.{Fits as InstrFits}
use Rattle.pt_code.specs.declared.Code.{Code}
use Rattle.pt_code.specs.declared.CodeBlock.{CodeBlock}
use Rattle.pt_assembler.specs.Layout.{instrs_of}
use Rattle.sem_compile.specs.compile.ScriptCode.{BlockLayout, code_of, script_layouts}
use Rattle.sem_control.specs.numbering.Numbered.{IsNumbered}
use Rattle.law_files.specs.code_files.Numbers.{NumbersFit}

-- cells of a block and free names have numbers in one row
abbrev pub CellsFit : Code → Type 0
CellsFit c = AllByRecursion (λ (b : CodeBlock). length b.cells + length b.free < 2 ^ 32) c.blocks

-- Where the counts of its tables and bytes fit, so does each operand of a script's code: it names what the code or the block has, or is a place in the
-- bytes, or counts what has instructions.
abbrev pub OperandsFit : Type 0
OperandsFit = (ss : Stms) (n : ℕ) (layout : BlockLayout) → IsNumbered ss → NumbersFit (code_of ss) → CellsFit (code_of ss)
    → slice_get (script_layouts ss) n ≡ Some layout → AllByRecursion InstrFits (instrs_of layout.written)
