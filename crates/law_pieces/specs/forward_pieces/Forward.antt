-- Pieces whose code goes ahead wherever no act begins, but for jumps back to where an act is near (Language Reference 7, 8: each round of a loop has
-- an act).
use Rattle.std.specs.Prelude.{◌≡◌, ℕ, List, [], ◌∷◌}
use Rattle.pt_instr.specs.declared.Instr.{Instr}
use Rattle.pt_instr.specs.declared.SlotNo.{SlotNo}
use Rattle.pt_instr.specs.declared.TextNo.{TextNo}
use Rattle.pt_instr.specs.declared.ListNo.{ListNo}
use Rattle.pt_assembler.specs.declared.operation.Jump.{Jump}
use Rattle.pt_assembler.specs.declared.operation.Jump.TheVariants.{Always, IfFalse}
use Rattle.pt_assembler.specs.Piece.{Op, plain, never, const, with_local, with_cell, with_free, with_text, with_list, to, Piece, empty, act, move, seq, block, headed, closed, looped, leave, ensured, caught, deeper, started, numbered, pick}
use Rattle.pt_assembler.specs.PieceAt.{instr_of_free}
use Rattle.sem_code.specs.silent_turns.Ahead.{IsStraight, IsSilent}

-- whatever is named, the instruction is such a one
abbrev pub IsOpOf : (Instr → Type 0) → Op → Type 0
IsOpOf P (plain i) = P i
IsOpOf P never = Unit {0}
IsOpOf P (const k) = Unit {0}
IsOpOf P (with_local f x) = (i : SlotNo) → P (f i)
IsOpOf P (with_cell f x) = (i : SlotNo) → P (f i)
IsOpOf P (with_free u x) = (i : ℕ) → P (instr_of_free u i)
IsOpOf P (with_text f x) = (t : TextNo) → P (f t)
IsOpOf P (with_list f xs) = (l : ListNo) → P (f l)
IsOpOf P (to k l) = ⊥

-- an act begins in the piece, under the same handler rows and behind straight instructions alone, or where this holds behind it
abbrev pub Near : Piece → (behind : Type 0) → Type 0
Near empty B = B
Near (act op n l g) B = Unit {0}
Near (move op) B = IsOpOf IsStraight op × B
Near (seq a b) B = Near a (Near b B)
Near (block p) B = Near p B
Near (headed p) B = Near p B
Near (closed p) B = Near p B
Near (looped b p) B = Near p B
Near (leave e n l) B = Unit {0}
Near (ensured p) B = ⊥
Near (caught p q) B = ⊥
Near (deeper k p) B = Near p B
Near (started l p) B = Near p B
Near (numbered n p) B = Near p B

-- a label lies ahead; or it is the beginning of what an act is near in, or of something else
pub data Lies : Type 0 where
  ahead : Lies
  near : Lies
  elsewhere : Lies

abbrev pub Begins : Lies → Piece → Type 0
Begins ahead p = ⊥
Begins near p = Near p ⊥
Begins elsewhere p = Unit {0}

-- what goes to a label without an act
abbrev pub Goes : Jump → Lies → Type 0
Goes Always ahead = Unit {0}
Goes Always near = Unit {0}
Goes IfFalse ahead = Unit {0}
Goes j l = ⊥

abbrev pub Silent : Op → (labels : List Lies) → Type 0
Silent (to j k) ls = Goes j (pick elsewhere ls k)
Silent op ls = IsOpOf IsSilent op

-- each instruction without an act goes ahead, or to where an act is near; and the end of a loop lies ahead
abbrev pub Forward : Piece → (labels : List Lies) → Type 0
Forward empty ls = Unit {0}
Forward (act op n l g) ls = Unit {0}
Forward (move op) ls = Silent op ls
Forward (seq a b) ls = Forward a ls × Forward b ls
Forward (block p) ls = Forward p (ahead ∷ ls)
Forward (headed p) ls = (l : Lies) × Begins l p × Forward p (l ∷ ls)
Forward (closed p) ls = Forward p []
Forward (looped b p) ls = (pick elsewhere ls b ≡ ahead) × Forward p []
Forward (leave e n l) ls = Unit {0}
Forward (ensured p) ls = Forward p []
Forward (caught p q) ls = Forward p [] × Forward q ls
Forward (deeper k p) ls = Forward p ls
Forward (started l p) ls = Forward p ls
Forward (numbered n p) ls = Forward p ls
