-- What laws say of the starts of statements.
use Rattle.std.specs.Prelude.{◌≡◌, ℕ, List, [], Contains, Some, None}
use Rattle.pt_tree.specs.Blocks.{Code}
use Rattle.pt_code.specs.declared.Start.{Start}
use Rattle.sem_control.specs.control.Turn.{Around}
use Rattle.sem_control.specs.control.Jump.{Target, starts_of, on_line}
use Rattle.sem_code.specs.slots.CodeObject.{CodeObject}
use Rattle.pt_assembler.specs.PieceAt.{Piece_at}
use Rattle.sem_fits.specs.fits.Block.{Block}
use Rattle.law_operands.specs.law_files.sem_compile.stm_pieces.Laws.{outermost, slots_of}
use Rattle.law_operands.specs.law_files.sem_compile.stm_pieces.StmPiece.{code_piece}

-- a place that the table of starts has for a line, and an instruction stands there
pub record HasStart (b : Block) (starts : List Start) (line : ℕ) : Type 0 where
  pub place : ℕ
  pub listed : Contains starts (record { pc = record { 0 = place }; line = record { 0 = line } })
  pub stands : b.at place ≡ None → ⊥

abbrev pub StatementsHaveStarts : (A V : Type 0) → Type 0
StatementsHaveStarts A V = (around : Around A) (c : Code) (code : CodeObject V) (starts : List Start) (b : Block) → ((pc : ℕ) → code.at pc ≡ b.at pc)
    → Piece_at code starts (code_piece around c) [] (outermost (slots_of c)) 0 b.size → (line : ℕ) (t : Target) → on_line line (starts_of c) ≡ Some t
    → HasStart b starts line
