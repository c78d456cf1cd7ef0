-- Pieces without handler rows and loops, in which no instruction makes a completion, and what is
-- said of the numbers of their acts.
use Rattle.std.specs.Prelude.{◌≡◌, ℕ, Bool, true, false}
use Rattle.pt_instr.specs.declared.Instr.{Instr}
use Rattle.pt_instr.specs.declared.Instr.TheVariants as instr
use Rattle.pt_assembler.specs.Piece.{Op, Piece, empty, act, move, seq, block, headed, closed, looped, leave, ensured, caught, deeper, started, numbered}
use Rattle.law_pieces.specs.piece_kinds.Walk.{instr_of}

abbrev pub makes_completion : Instr → Bool
makes_completion instr.Normal = true
makes_completion instr.Exit = true
makes_completion i = false

abbrev pub MakesNone : Op → Type 0
MakesNone op = makes_completion (instr_of op) ≡ false

module _ (R : ℕ → Type 0) where
  -- a plain piece, the number of each act of which is such a one
  abbrev pub Each : Piece → Type 0
  Each empty = Unit {0}
  Each (act op n l g) = MakesNone op × R n
  Each (move op) = MakesNone op
  Each (seq a b) = Each a × Each b
  Each (block p) = Each p
  Each (headed p) = Each p
  Each (closed p) = Each p
  Each (looped b p) = ⊥
  Each (leave e n l) = R n
  Each (ensured p) = ⊥
  Each (caught p q) = ⊥
  Each (deeper k p) = ⊥
  Each (started l p) = ⊥
  Each (numbered n p) = Each p

  -- the number of each act of any piece is such a one
  abbrev pub Numbers : Piece → Type 0
  Numbers empty = Unit {0}
  Numbers (act op n l g) = R n
  Numbers (move op) = Unit {0}
  Numbers (seq a b) = Numbers a × Numbers b
  Numbers (block p) = Numbers p
  Numbers (headed p) = Numbers p
  Numbers (closed p) = Numbers p
  Numbers (looped b p) = Numbers p
  Numbers (leave e n l) = R n
  Numbers (ensured p) = Numbers p
  Numbers (caught p q) = Numbers p × Numbers q
  Numbers (deeper k p) = Numbers p
  Numbers (started l p) = Numbers p
  Numbers (numbered n p) = Numbers p
