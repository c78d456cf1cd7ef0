-- The first statement on a line in the order of code.
use Rattle.std.specs.Prelude.{ℕ, nat_eq, Option, Some, None, if◌then◌else◌}
use Rattle.pt_assembler.specs.Piece.{Piece, empty, act, move, seq, block, headed, closed, looped, leave, ensured, caught, deeper, started, numbered}
use Rattle.sem_code.specs.slots.Slots.{or_else}
use Rattle.law_pieces.specs.piece_kinds.Walk.{end_of}

module _ (next : ℕ → ℕ) (line : ℕ) where
  -- the place of the first start on the line in a piece that stands at a place
  abbrev pub first_start : Piece → (from : ℕ) → Option ℕ
  first_start empty p = None
  first_start (act op n l g) p = None
  first_start (move op) p = None
  first_start (seq a b) p = or_else (first_start a p) (first_start b (end_of next a p))
  first_start (block q) p = first_start q p
  first_start (headed q) p = first_start q p
  first_start (closed q) p = first_start q p
  first_start (looped b q) p = first_start q p
  first_start (leave e n l) p = None
  first_start (ensured q) p = first_start q p
  first_start (caught q r) p = or_else (first_start q p) (first_start r (end_of next q p))
  first_start (deeper k q) p = first_start q p
  first_start (started l q) p = if nat_eq l line then Some p else first_start q p
  first_start (numbered n q) p = first_start q p
