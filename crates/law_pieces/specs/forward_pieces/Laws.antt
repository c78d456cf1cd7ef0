-- What laws say of pieces that go ahead.
use Rattle.std.specs.Prelude.{◌≡◌, ◌<◌, ℕ, List, [], None, Some}
use Rattle.pt_tree.specs.Blocks.{Code}
use Rattle.pt_code.specs.View.{Ins}
use Rattle.pt_code.specs.declared.Start.{Start}
use Rattle.sem_control.specs.control.Turn.{Around}
use Rattle.sem_code.specs.slots.CodeObject.{CodeObject}
use Rattle.pt_assembler.specs.Piece.{Piece}
use Rattle.pt_assembler.specs.PieceAt.{Piece_at}
use Rattle.sem_compile.specs.stm_pieces.Laws.{outermost}
use Rattle.sem_compile.specs.stm_pieces.StmPiece.{code_piece}
use Rattle.sem_code.specs.silent_turns.Ahead.{GoesAhead}
use Rattle.law_pieces.specs.forward_pieces.Forward.{Forward}

abbrev pub PiecesGoForward : (V : Type 0) → Type 0
PiecesGoForward V = (around : Around V) (c : Code) → Forward (code_piece around c) []

-- instructions stand one behind another: each has some length, none stands within another, and none behind the end
pub record InOrder {V : Type 0} (code : CodeObject V) (size : ℕ) : Type 0 where
  pub rises : (pc : ℕ) (i : Ins) → code.at pc ≡ Some i → pc < i.next
  pub apart : (pc q : ℕ) (i : Ins) → code.at pc ≡ Some i → pc < q → q < i.next → code.at q ≡ None
  pub inside : (pc : ℕ) (i : Ins) → code.at pc ≡ Some i → pc < size

abbrev pub PiecesGoAhead : (V : Type 0) → Type 0
PiecesGoAhead V = (code : CodeObject V) (starts : List Start) (p : Piece) (depth size : ℕ) → Forward p [] → InOrder code size
    → Piece_at code starts p [] (outermost depth) 0 size → GoesAhead code size
