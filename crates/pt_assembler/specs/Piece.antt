-- Code in pieces. A construct of the language is a few of them, with labels of its own, which are counted from the innermost outwards.
use Rattle.std.specs.Prelude.{ℕ, zero, suc, List, [], ◌∷◌, Bool}
use Rattle.pt_tree.specs.declared.expression.Constant.{Constant}
use Rattle.pt_tree.specs.Syntax.{Name}
use Rattle.pt_instr.specs.declared.TextNo.{TextNo}
use Rattle.pt_instr.specs.declared.ListNo.{ListNo}
use Rattle.pt_instr.specs.declared.SlotNo.{SlotNo}
use Rattle.pt_instr.specs.declared.Instr.{Instr}
use Rattle.pt_assembler.specs.declared.operation.Jump.{Jump}
use Rattle.pt_assembler.specs.declared.operation.FreeUse.{FreeUse}
use Rattle.pt_assembler.specs.declared.operation.Exit.{Exit}

-- an instruction, with what its operand names in place of a number, and with a label in place of a place
pub data Op : Type 0 where
  plain : Instr → Op
  -- what no instruction does
  never : Op
  const : Constant → Op
  -- of a local name, of a cell name and of a free name of the block (4.2.2)
  with_local : (SlotNo → Instr) → Name → Op
  with_cell : (SlotNo → Instr) → Name → Op
  with_free : FreeUse → Name → Op
  with_text : (TextNo → Instr) → Name → Op
  with_list : (ListNo → Instr) → List Name → Op
  to : Jump → (label : ℕ) → Op

pub data Piece : Type 0 where
  empty : Piece
  -- an instruction with which an act begins, and one without an act
  act : Op → (number line : ℕ) → (again : Bool) → Piece
  move : Op → Piece
  seq : (a b : Piece) → Piece
  -- label 0 is its end; label 0 is its beginning
  block : Piece → Piece
  headed : Piece → Piece
  -- no label from around is seen in it
  closed : Piece → Piece
  -- the body of a loop: a `break` in it goes to a label, and a `continue` to its end
  looped : (break_to : ℕ) → Piece → Piece
  -- a `break` or a `continue`
  leave : Exit → (number line : ℕ) → Piece
  -- a handler row covers it; the row takes each completion, and its target is the end, with a normal completion where nothing leaves
  ensured : Piece → Piece
  -- a handler row covers the first; it takes raises alone, and its target is behind the second
  caught : (body skipped : Piece) → Piece
  -- so many more slots lie below
  deeper : ℕ → Piece → Piece
  -- a statement starts
  started : (line : ℕ) → Piece → Piece
  -- its acts are numbered from here
  numbered : (number : ℕ) → Piece → Piece

infixr 30 ◌▸◌
abbrev pub ◌▸◌ : Piece → Piece → Piece
a ▸ b = seq a b

-- a label, the innermost first
abbrev pub pick : {A : Type 0} → A → List A → ℕ → A
pick a [] k = a
pick a (x ∷ xs) zero = x
pick a (x ∷ xs) (suc k) = pick a xs k
