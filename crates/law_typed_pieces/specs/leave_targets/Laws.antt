-- What laws say of the targets of jumps out of loops.
use Rattle.std.specs.Prelude.{◌≡◌, ℕ, List, [], length}
use Rattle.pt_tree.specs.Blocks.{Code}
use Rattle.pt_code.specs.declared.Start.{Start}
use Rattle.sem_control.specs.control.Turn.{Around}
use Rattle.sem_code.specs.slots.CodeObject.{CodeObject}
use Rattle.pt_assembler.specs.PieceAt.{Piece_at}
use Rattle.sem_fits.specs.fits.Block.{Block, kinds_at_start}
use Rattle.sem_fits.specs.fits.Agreement.{Agrees}
use Rattle.law_operands.specs.law_files.sem_compile.stm_pieces.Names.{TakesCells, Code_named}
use Rattle.law_operands.specs.law_files.sem_compile.stm_pieces.Laws.{outermost, slots_of}
use Rattle.law_operands.specs.law_files.sem_compile.stm_pieces.StmPiece.{code_piece}
use Rattle.law_pieces.specs.piece_kinds.Walk.{kinds_of}
use Rattle.law_pieces.specs.piece_kinds.Table.{Rises}
use Rattle.law_typed_pieces.specs.typed_pieces.Laws.{first_slots}
use Rattle.law_typed_pieces.specs.agreement.Laws.{Misplaced, StrayLeave}

abbrev pub LeavesLeadInside : (A V : Type 0) → Type 0
LeavesLeadInside A V = (around : Around A) (c : Code) (code : CodeObject V) (starts : List Start) (b : Block) → TakesCells around
    → ((n : ℕ) → b.links.captures n ≡ length (around.captured n)) → Code_named around c → ((pc : ℕ) → code.at pc ≡ b.at pc) → Rises b
    → Piece_at code starts (code_piece around c) [] (outermost (slots_of c)) 0 b.size → kinds_at_start b.kind ≡ kinds_of (first_slots c) → StrayLeave b → ⊥

-- where each instruction may stand in a block of its kind
abbrev pub BlocksAgreeThere : (A V : Type 0) → Type 0
BlocksAgreeThere A V = (around : Around A) (c : Code) (code : CodeObject V) (starts : List Start) (b : Block) → TakesCells around
    → ((n : ℕ) → b.links.captures n ≡ length (around.captured n)) → Code_named around c → ((pc : ℕ) → code.at pc ≡ b.at pc) → Rises b
    → Piece_at code starts (code_piece around c) [] (outermost (slots_of c)) 0 b.size → kinds_at_start b.kind ≡ kinds_of (first_slots c)
    → (Misplaced b → ⊥) → Agrees b b.size
