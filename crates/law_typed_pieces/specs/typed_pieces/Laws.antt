-- What laws say of the pieces of blocks.
use Rattle.std.specs.Prelude.{◌≡◌, ℕ, List, [], ◌∷◌, length}
use Rattle.pt_tree.specs.Blocks as B
use Rattle.pt_tree.specs.Blocks.{Code}
use Rattle.pt_instr.specs.declared.kinds.Kind.TheVariants.{Iter}
use Rattle.pt_code.specs.declared.Start.{Start}
use Rattle.sem_control.specs.control.Turn.{Around}
use Rattle.sem_code.specs.slots.CodeObject.{CodeObject}
use Rattle.pt_assembler.specs.Piece.{Piece}
use Rattle.pt_assembler.specs.PieceAt.{Piece_at}
use Rattle.sem_fits.specs.fits.Block.{Block, kinds_at_start}
use Rattle.law_operands.specs.law_files.sem_compile.stm_pieces.Names.{TakesCells, Code_named}
use Rattle.law_operands.specs.law_files.sem_compile.stm_pieces.StmPiece.{code_piece}
use Rattle.law_operands.specs.law_files.sem_compile.stm_pieces.Laws.{outermost, slots_of}
use Rattle.law_pieces.specs.piece_kinds.Walk.{StackMap, kinds_of, some}
use Rattle.law_pieces.specs.piece_kinds.Table.{Rises, IsTableOf}
use Rattle.law_pieces.specs.piece_kinds.Laws.{table_of, IsTyped, Ends}

-- the slots with which a block begins: that of a generator expression has its first iterator (6.2.8)
abbrev pub first_slots : Code → StackMap
first_slots (B.of_generator l e k t cs) = some Iter ∷ []
first_slots c = []

-- a piece that is typed from these slots, and behind which nothing goes on
pub record IsWhole (b : Block) (p : Piece) (ks : StackMap) : Type 0 where
  pub typed : IsTyped b p ks
  pub ends : Ends b p ks

-- where blocks within take as many cells along as they have free names, and names are found as they may be
abbrev pub PiecesAreTyped : (V : Type 0) → Type 0
PiecesAreTyped V = (around : Around V) (b : Block) → TakesCells around → ((n : ℕ) → b.links.captures n ≡ length (around.captured n))
    → (c : Code) → Code_named around c → IsWhole b (code_piece around c) (first_slots c)

-- where the code of a block is that of its piece, the walk over the piece gives a table of the block
abbrev pub HaveTables : (A V : Type 0) → Type 0
HaveTables A V = (around : Around A) (c : Code) (code : CodeObject V) (starts : List Start) (b : Block) → TakesCells around
    → ((n : ℕ) → b.links.captures n ≡ length (around.captured n)) → Code_named around c → ((pc : ℕ) → code.at pc ≡ b.at pc) → Rises b
    → Piece_at code starts (code_piece around c) [] (outermost (slots_of c)) 0 b.size → kinds_at_start b.kind ≡ kinds_of (first_slots c)
    → IsTableOf b (table_of b (code_piece around c) (first_slots c))
