-- What laws say of the closed parts of blocks (Library Reference, "inspect": `f_lineno`).
use Rattle.std.specs.Prelude.{◌≡◌, ℕ, List, [], ◌++◌, length, Contains, Some}
use Rattle.pt_tree.specs.Blocks.{Code}
use Rattle.pt_instr.specs.Effects.{Kinds}
use Rattle.pt_code.specs.declared.Start.{Start}
use Rattle.sem_control.specs.control.Turn.{Around}
use Rattle.sem_control.specs.control.Jump.{Part, parts, Target, starts_of, on_line}
use Rattle.sem_code.specs.slots.CodeObject.{CodeObject}
use Rattle.pt_assembler.specs.PieceAt.{Piece_at}
use Rattle.sem_fits.specs.fits.Block.{Block, kinds_at_start}
use Rattle.sem_fits.specs.fits.Places.{Gets}
use Rattle.sem_fits.specs.comp_jumps.Parts.{Closed, Begins, Fills, Around_place}
use Rattle.sem_compile.specs.stm_pieces.Names.{TakesCells, Code_named}
use Rattle.sem_compile.specs.stm_pieces.StmPiece.{code_piece}
use Rattle.sem_compile.specs.stm_pieces.Laws.{outermost, slots_of}
use Rattle.law_pieces.specs.piece_kinds.Walk.{StackMap, kinds_of}
use Rattle.law_pieces.specs.piece_kinds.Table.{next_of, Rises, Table, slot_of}
use Rattle.law_pieces.specs.piece_kinds.Laws.{table_of}
use Rattle.law_pieces.specs.origin_parts.Laws.{is_made_at}
use Rattle.law_typed_pieces.specs.typed_pieces.Laws.{first_slots}
use Rattle.law_parts.specs.part_slots.Slots.{PartSlot, slots_of_code}
use Rattle.law_parts.specs.part_slots.Parts.{slot_in, AreOf, AreOthers}
use Rattle.law_pieces.specs.first_starts.First.{first_start}
use Rattle.law_parts.specs.part_slots.Text.{Code_grammatical, Code_else_apart}

-- a closed part is the places whose slot of its number was made where its slot is
pub record IsMadeThere (b : Block) (at : Table) (s : PartSlot) (p : Closed b) : Type 0 where
  pub slot_is : p.slot ≡ s.slot
  pub range_is : (pc : ℕ) → p.range pc ≡ is_made_at s.origin (slot_of (at pc) s.slot)

-- a place gets these slots, and lies in these parts
pub record PlaceInParts (b : Block) (part : Part → Closed b) (pc : ℕ) (ks : StackMap) (ps : List Part) : Type 0 where
  pub gets : Gets b b.size pc (kinds_of ks)
  pub begins : Begins (kinds_of ks) ps
  pub around_place : Around_place b part pc ps

-- the first statement on a line starts first in code too; some way comes there, and the place lies in the statement's parts, with no other slots
pub record StatementInParts {A : Type 0} (around : Around A) (c : Code) (starts : List Start) (b : Block) (part : Part → Closed b) (line : ℕ) (t : Target) : Type 0 where
  pub place : ℕ
  pub first : first_start (next_of b) line (code_piece around c) 0 ≡ Some place
  pub listed : Contains starts (record { pc = record { 0 = place }; line = record { 0 = line } })
  pub kinds : Kinds
  pub gets : Gets b b.size place kinds
  pub fills : Fills kinds (parts t.within)
  pub around_place : Around_place b part place (parts t.within)

pub record HasParts {A : Type 0} (around : Around A) (c : Code) (starts : List Start) (b : Block) : Type 0 where
  pub part : Part → Closed b
  pub made : (q : Part) (s : PartSlot) → slot_in (slots_of_code around (next_of b) c) q ≡ Some s
      → IsMadeThere b (table_of b (code_piece around c) (first_slots c)) s (part q)
  -- where the lowest slots are those of some parts, and no other is a part's
  pub places : (pc : ℕ) (above base : StackMap) (ps : List Part) → table_of b (code_piece around c) (first_slots c) pc ≡ Some (above ++ base)
      → AreOf (slot_in (slots_of_code around (next_of b) c)) ps base → AreOthers (slot_in (slots_of_code around (next_of b) c)) above
      → PlaceInParts b part pc (above ++ base) ps
  pub statements : (line : ℕ) (t : Target) → on_line line (starts_of c) ≡ Some t → StatementInParts around c starts b part line t

-- where the code of a block is that of its piece, and its tree is that of a text
abbrev pub StatementsLieInParts : (A V : Type 0) → Type 0
StatementsLieInParts A V = (around : Around A) (c : Code) (code : CodeObject V) (starts : List Start) (b : Block) → TakesCells around
    → ((n : ℕ) → b.links.captures n ≡ length (around.captured n)) → Code_named around c → ((pc : ℕ) → code.at pc ≡ b.at pc) → Rises b
    → Piece_at code starts (code_piece around c) [] (outermost (slots_of c)) 0 b.size → kinds_at_start b.kind ≡ kinds_of (first_slots c)
    → Code_grammatical c → Code_else_apart c → HasParts around c starts b
