-- That the acts of a block lie in their parts (Library Reference, "inspect": `f_lineno`).
use Rattle.std.specs.Prelude.{◌≡◌, ℕ, List, [], ◌∷◌, length, Option, Some}
use Rattle.pt_tree.specs.Blocks.{Code}
use Rattle.pt_code.specs.declared.Start.{Start}
use Rattle.pt_code.specs.View.{Ins}
use Rattle.pt_ranges.specs.declared.lines.ActMark.{ActMark}
use Rattle.sem_control.specs.control.Turn.{Around}
use Rattle.sem_control.specs.control.Frames as F
use Rattle.sem_control.specs.control.Jump.{Part, with_part, exit_part, parts, Shape}
use Rattle.sem_code.specs.slots.CodeObject.{CodeObject}
use Rattle.pt_assembler.specs.PieceAt.{Piece_at}
use Rattle.sem_fits.specs.fits.Block.{Block}
use Rattle.sem_compile.specs.stm_pieces.Names.{TakesCells, Code_named}
use Rattle.sem_compile.specs.stm_pieces.StmPiece.{code_piece}
use Rattle.sem_compile.specs.stm_pieces.Laws.{outermost, slots_of}
use Rattle.law_pieces.specs.piece_kinds.Walk.{StackMap}
use Rattle.law_pieces.specs.piece_kinds.Table.{Rises}
use Rattle.law_pieces.specs.piece_kinds.Laws.{table_of}
use Rattle.law_typed_pieces.specs.typed_pieces.Laws.{first_slots}
use Rattle.law_parts.specs.part_slots.Text.{Code_grammatical}
use Rattle.law_parts.specs.part_slots.Laws.{HasParts, PlaceInParts}
use Rattle.sem_control.specs.control.Nests.{Code_says}

-- the parts in which code lies where control is in a nest of this shape. An exit that is due lies
-- in the part of the body of its `with` too
abbrev pub placed_in : Shape → List Part
placed_in (F.exiting n w held ∷ s) = exit_part n ∷ with_part n ∷ parts s
placed_in s = parts s

-- a place of a block to which some way comes, with the instruction at which an act begins
pub record ActAt (at : (pc : ℕ) → Option StackMap) (b : Block) (pc : ℕ) : Type 0 where
  pub instr : Ins
  pub there : b.at pc ≡ Some instr
  pub mark : ActMark
  pub marked : instr.mark ≡ Some mark
  pub slots : StackMap
  pub kept : at pc ≡ Some slots

-- where the code of a block is that of its piece, each place of an act lies in the parts of the
-- nest that the tree gives the act
abbrev pub ActsLieInParts : (A V : Type 0) → Type 0
ActsLieInParts A V = (around : Around A) (c : Code) (code : CodeObject V) (starts : List Start)
    (b : Block) → TakesCells around
    → ((n : ℕ) → b.links.captures n ≡ length (around.captured n)) → Code_named around c
    → ((pc : ℕ) → code.at pc ≡ b.at pc) → Rises b
    → Piece_at code starts (code_piece around c) [] (outermost (slots_of c)) 0 b.size
    → Code_grammatical c → (p : HasParts around c starts b) (pc : ℕ)
    → (a : ActAt (table_of b (code_piece around c) (first_slots c)) b pc)
    → Code_says (λ s act. act ≡ a.mark.act.0 → PlaceInParts b p.part pc a.slots (placed_in s)) c
