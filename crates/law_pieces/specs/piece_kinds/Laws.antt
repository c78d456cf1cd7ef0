-- What laws say of the walk over pieces.
use Rattle.std.specs.Prelude.{◌≡◌, ℕ, List, [], Some, None}
use Rattle.pt_code.specs.declared.Start.{Start}
use Rattle.sem_code.specs.slots.CodeObject.{CodeObject}
use Rattle.pt_assembler.specs.Piece.{Piece}
use Rattle.pt_assembler.specs.PieceAt.{Piece_at}
use Rattle.pt_instr.specs.Effects.{Kinds}
use Rattle.sem_fits.specs.fits.Block.{Block, kinds_at_start}
use Rattle.sem_fits.specs.fits.Places.{Gets}
use Rattle.sem_fits.specs.fits.Leaves.{Common}
use Rattle.law_pieces.specs.piece_kinds.Walk.{StackMap, kinds_of, Setting, behind, slots_at}
use Rattle.law_pieces.specs.piece_kinds.Typed.{Typed}
use Rattle.law_pieces.specs.piece_kinds.Table.{next_of, Rises, Table, AgreesWith, slot_of, WasMadeAt, IsTableOf}
use Rattle.law_pieces.specs.piece_kinds.Exits.{LeadsBelow, ExitsAre}

abbrev pub outermost : Setting
outermost = record { labels = []; loop = None }

-- the table of a block whose code is one piece, from these slots at its start
abbrev pub table_of : Block → Piece → (start : StackMap) → Table
table_of b p ks = λ pc. slots_at b.links (next_of b) p outermost [] 0 (Some ks) pc

abbrev pub IsTyped : Block → Piece → (start : StackMap) → Type 0
IsTyped b p ks = Typed b.links (next_of b) p outermost [] [] 0 (Some ks)

-- nothing goes on behind it
abbrev pub Ends : Block → Piece → (start : StackMap) → Type 0
Ends b p ks = behind b.links (next_of b) p outermost [] 0 (Some ks) ≡ None

-- the piece is all of a block
abbrev pub Whole_at : {V : Type 0} → CodeObject V → List Start → Block → Piece → Type 0
Whole_at code starts b p = Piece_at code starts p [] (record { rows = []; depth = 0; around = None }) 0 b.size

-- of a piece that is typed, which stands in a block and ends in nothing that goes on
abbrev pub WalkIsRight : (V : Type 0) → Type 0
WalkIsRight V = (code : CodeObject V) (b : Block) (starts : List Start) (p : Piece) (ks : StackMap) → ((pc : ℕ) → code.at pc ≡ b.at pc) → Rises b
    → Whole_at code starts b p → IsTyped b p ks → Ends b p ks → AgreesWith b (table_of b p ks)

-- each exit of a loop leads to slots that lie below the loop
abbrev pub ExitsFit : Block → Piece → (start : StackMap) → Type 0
ExitsFit b p ks = ExitsAre b.links (next_of b) (LeadsBelow (table_of b p ks)) p outermost [] 0 (Some ks)

-- none of these slots is followed
abbrev pub NoneFollowed : StackMap → Type 0
NoneFollowed ks = (d o : ℕ) → WasMadeAt o (slot_of (Some ks) d) → ⊥

-- the walk over such a piece gives a table of its block
abbrev pub WalkIsTable : (V : Type 0) → Type 0
WalkIsTable V = (code : CodeObject V) (b : Block) (starts : List Start) (p : Piece) (ks : StackMap) → ((pc : ℕ) → code.at pc ≡ b.at pc) → Rises b
    → Whole_at code starts b p → IsTyped b p ks → Ends b p ks → ExitsFit b p ks → kinds_of ks ≡ kinds_at_start b.kind → NoneFollowed ks
    → IsTableOf b (table_of b p ks)

-- a place gets the kinds that a table has there, and no others
pub record HasKinds (b : Block) (at : Table) (pc : ℕ) (ks : Kinds) : Type 0 where
  pub slots : StackMap
  pub there : at pc ≡ Some slots
  pub kinds : kinds_of slots ≡ ks

abbrev pub TableHasKinds : Block → Type 0
TableHasKinds b = (at : Table) → IsTableOf b at → (q : ℕ) (ks : Kinds) → Gets b b.size q ks → HasKinds b at q ks

-- a slot in common was made at one place
abbrev pub CommonIsOfOneOrigin : Block → Type 0
CommonIsOfOneOrigin b = (at : Table) → IsTableOf b at → (d q r : ℕ) → Common b b.size d q r → slot_of (at q) d ≡ slot_of (at r) d

-- and what was made at one place is in common
abbrev pub OneOriginIsCommon : Block → Type 0
OneOriginIsCommon b = (at : Table) → IsTableOf b at → (d q r o : ℕ) → WasMadeAt o (slot_of (at q) d) → WasMadeAt o (slot_of (at r) d) → Common b b.size d q r
