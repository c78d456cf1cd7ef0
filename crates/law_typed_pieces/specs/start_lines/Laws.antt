-- What laws say of the starts of a block.
use Rattle.std.specs.Prelude.{◌≡◌, ℕ, List, [], Contains, None}
use Rattle.pt_tree.specs.Syntax.{Name}
use Rattle.pt_tree.specs.Blocks.{Code}
use Rattle.pt_instr.specs.declared.TextNo.{TextNo}
use Rattle.pt_code.specs.declared.Const.{Const}
use Rattle.sem_control.specs.control.Turn.{Around}
use Rattle.sem_control.specs.control.Jump.{starts_of, on_line}
use Rattle.pt_assembler.specs.Layout.{begun, layout}
use Rattle.law_operands.specs.law_files.sem_compile.stm_pieces.Laws.{slots_of}
use Rattle.law_operands.specs.law_files.sem_compile.stm_pieces.StmPiece.{code_piece}

abbrev pub StartsHaveStatements : (V : Type 0) → Type 0
StartsHaveStatements V = (around : Around V) (c : Code) (texts : List Name) (constants : List Const) (lists : List (List ℕ)) (locals cells free : List TextNo) (pc line : ℕ)
    → Contains (layout (code_piece around c) [] (begun texts constants lists locals cells free (slots_of c))).starts
    (record { pc = record { 0 = pc }; line = record { 0 = line } })
    → on_line line (starts_of c) ≡ None → ⊥
