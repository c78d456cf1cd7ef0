-- What laws say of the acts of blocks.
use Rattle.std.specs.Prelude.{◌≡◌, ℕ, List, [], length}
use Rattle.pt_tree.specs.Blocks.{Code, acts_of_code}
use Rattle.pt_tree.specs.Syntax.{Name}
use Rattle.pt_instr.specs.declared.TextNo.{TextNo}
use Rattle.pt_code.specs.declared.Const.{Const}
use Rattle.sem_control.specs.control.Turn.{Around}
use Rattle.pt_assembler.specs.Layout.{begun, layout, marks_from}
use Rattle.sem_compile.specs.stm_pieces.StmPiece.{code_piece}
use Rattle.law_pieces.specs.piece_acts.Counting.{acts_in}

-- of a block that is laid out from its piece
abbrev pub MarksTellActs : (V : Type 0) → Type 0
MarksTellActs V = (around : Around V) (c : Code) (texts : List Name) (constants : List Const) (lists : List (List ℕ)) (locals cells free : List TextNo) (depth : ℕ)
    → acts_in (marks_from 0 (layout (code_piece around c) [] (begun texts constants lists locals cells free depth)).instrs) ≡ length (acts_of_code c)
