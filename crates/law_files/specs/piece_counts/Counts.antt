-- Which operands of instructions are counts or places, and that those of a piece are no greater than a number.
use Rattle.std.specs.Prelude.{ℕ, ◌+◌, ◌≤◌, List, ◌∷◌}
use Rattle.pt_instr.specs.declared.TextNo.{TextNo}
use Rattle.pt_instr.specs.declared.ListNo.{ListNo}
use Rattle.pt_instr.specs.declared.SlotNo.{SlotNo}
use Rattle.pt_instr.specs.declared.Instr.{Instr}
use Rattle.pt_instr.specs.Encoding.{code_of}
use Rattle.pt_code.specs.declared.parts.Operand.{Operand}
use Rattle.pt_code.specs.declared.parts.Operand.TheVariants as operand
use Rattle.pt_code.specs.File.{operands}
use Rattle.pt_assembler.specs.Piece as P
use Rattle.pt_assembler.specs.Piece.{Op, Piece}

abbrev pub AtMostOne : ℕ → Operand → ℕ → Type 0
AtMostOne most operand.Number n = n ≤ most
AtMostOne most o n = Unit {0}

abbrev pub AtMost : ℕ → List Operand → List ℕ → Type 0
AtMost most (o ∷ os) (n ∷ ns) = AtMostOne most o n × AtMost most os ns
AtMost most os ns = Unit {0}

abbrev pub NumbersIn : ℕ → Instr → Type 0
NumbersIn most i = AtMost most (operands i) (code_of i).operands

abbrev pub NumbersOp : ℕ → Op → Type 0
NumbersOp most (P.plain i) = NumbersIn most i
NumbersOp most P.never = Unit {0}
NumbersOp most (P.const k) = Unit {0}
NumbersOp most (P.with_local f x) = (i : SlotNo) → NumbersIn most (f i)
NumbersOp most (P.with_cell f x) = (i : SlotNo) → NumbersIn most (f i)
NumbersOp most (P.with_free u x) = Unit {0}
NumbersOp most (P.with_text f x) = (t : TextNo) → NumbersIn most (f t)
NumbersOp most (P.with_list f xs) = (l : ListNo) → NumbersIn most (f l)
NumbersOp most (P.to j l) = Unit {0}

abbrev pub NumbersPiece : ℕ → Piece → Type 0
NumbersPiece most P.empty = Unit {0}
NumbersPiece most (P.act op k l g) = NumbersOp most op
NumbersPiece most (P.move op) = NumbersOp most op
NumbersPiece most (P.seq a b) = NumbersPiece most a × NumbersPiece most b
NumbersPiece most (P.block p) = NumbersPiece most p
NumbersPiece most (P.headed p) = NumbersPiece most p
NumbersPiece most (P.closed p) = NumbersPiece most p
NumbersPiece most (P.looped b p) = NumbersPiece most p
NumbersPiece most (P.leave e k l) = Unit {0}
NumbersPiece most (P.ensured p) = NumbersPiece most p
NumbersPiece most (P.caught p q) = NumbersPiece most p × NumbersPiece most q
NumbersPiece most (P.deeper k p) = NumbersPiece most p
NumbersPiece most (P.started l p) = NumbersPiece most p
NumbersPiece most (P.numbered k p) = NumbersPiece most p

-- how many instructions a piece is
abbrev pub instructions : Piece → ℕ
instructions P.empty = 0
instructions (P.act op k l g) = 1
instructions (P.move op) = 1
instructions (P.seq a b) = instructions a + instructions b
instructions (P.block p) = instructions p
instructions (P.headed p) = instructions p
instructions (P.closed p) = instructions p
instructions (P.looped b p) = instructions p
instructions (P.leave e k l) = 1
instructions (P.ensured p) = instructions p + 1
instructions (P.caught p q) = instructions p + instructions q
instructions (P.deeper k p) = instructions p
instructions (P.started l p) = instructions p
instructions (P.numbered k p) = instructions p

-- Behind so many instructions each count in a piece is at most that of the instructions up to its end: what is counted has code, before or behind.
pub record CountsHaveCode (before : ℕ) (p : Piece) : Type 0 where
  pub numbers : NumbersPiece (before + instructions p) p
