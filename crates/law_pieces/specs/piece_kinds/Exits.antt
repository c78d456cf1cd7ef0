-- Where the exits of loops stand in a piece, and what holds at each of them.
use Rattle.std.specs.Prelude.{◌≡◌, ◌≤◌, ℕ, Bool, true, false, length, Option, Some, None}
use Rattle.pt_instr.specs.declared.TextNo.{TextNo}
use Rattle.pt_instr.specs.declared.ListNo.{ListNo}
use Rattle.pt_instr.specs.declared.SlotNo.{SlotNo}
use Rattle.pt_instr.specs.declared.Instr.{Instr}
use Rattle.pt_instr.specs.declared.Instr.TheVariants as instr
use Rattle.pt_assembler.specs.declared.operation.Exit.{Exit}
use Rattle.pt_assembler.specs.declared.operation.Exit.TheVariants.{Break, Continue}
use Rattle.pt_assembler.specs.Piece.{Op, plain, with_local, with_cell, with_text, with_list, to, Piece, empty, act, move, seq, block, headed, closed, looped, leave, ensured, caught, deeper, started, numbered}
use Rattle.pt_assembler.specs.PieceAt.{instr_to}
use Rattle.sem_fits.specs.fits.Block.{Links}
use Rattle.law_pieces.specs.piece_kinds.Walk.{Loop, StackMap, deepened, Setting, with_label, with_none, with_loop, end_of, behind}
use Rattle.law_pieces.specs.piece_kinds.Typed.{Over}
use Rattle.law_pieces.specs.piece_kinds.Table.{Table}

-- (outside of a loop nothing leaves it)
abbrev pub exit_in : Exit → Option Loop → ℕ
exit_in e None = 0
exit_in Break (Some x) = x.break_to
exit_in Continue (Some x) = x.continue_to

abbrev pub depth_of : Option Loop → ℕ
depth_of None = 0
depth_of (Some x) = x.depth

-- where an exit leads there lie no slots but those below the loop
abbrev pub LeadsBelow : Table → Option Loop → (base : StackMap) → Exit → Type 0
LeadsBelow at x base e = (ls : StackMap) → at (exit_in e x) ≡ Some ls → Over ls base × (length ls ≤ depth_of x)

abbrev pub is_leave : Instr → Bool
is_leave (instr.Leave t) = true
is_leave i = false

-- an operation that isn't the exit of a loop, whatever number it names
abbrev pub NeverLeaves : Op → Type 0
NeverLeaves (plain i) = is_leave i ≡ false
NeverLeaves (with_local f x) = (i : SlotNo) → is_leave (f i) ≡ false
NeverLeaves (with_cell f x) = (i : SlotNo) → is_leave (f i) ≡ false
NeverLeaves (with_text f x) = (t : TextNo) → is_leave (f t) ≡ false
NeverLeaves (with_list f xs) = (l : ListNo) → is_leave (f l) ≡ false
NeverLeaves (to j l) = is_leave (instr_to j 0) ≡ false
NeverLeaves op = Unit {0}

module _ (links : Links) (next : ℕ → ℕ) (P : Option Loop → (base : StackMap) → Exit → Type 0) where
  -- at each exit to which some way comes this holds of the loop around, and of the slots that handler rows leave; no other instruction is one
  abbrev pub ExitsAre : Piece → Setting → (base : StackMap) → (from : ℕ) → Option StackMap → Type 0
  ExitsAre q c base p None = Unit {0}
  ExitsAre empty c base p (Some ks) = Unit {0}
  ExitsAre (act op n l g) c base p (Some ks) = NeverLeaves op
  ExitsAre (move op) c base p (Some ks) = NeverLeaves op
  ExitsAre (seq a b) c base p (Some ks) = ExitsAre a c base p (Some ks) × ExitsAre b c base (end_of next a p) (behind links next a c base p (Some ks))
  ExitsAre (block q) c base p (Some ks) = ExitsAre q (with_label (end_of next q p) c) base p (Some ks)
  ExitsAre (headed q) c base p (Some ks) = ExitsAre q (with_label p c) base p (Some ks)
  ExitsAre (closed q) c base p (Some ks) = ExitsAre q (with_none c) base p (Some ks)
  ExitsAre (looped k q) c base p (Some ks) = ExitsAre q (with_loop k (end_of next q p) (length base) c) base p (Some ks)
  ExitsAre (leave e n l) c base p (Some ks) = P c.loop base e
  ExitsAre (ensured q) c base p (Some ks) = ExitsAre q (with_none c) base p (Some ks)
  ExitsAre (caught q r) c base p (Some ks) =
      ExitsAre q (with_none c) base p (Some ks) × ExitsAre r c base (end_of next q p) (behind links next q (with_none c) base p (Some ks))
  ExitsAre (deeper k q) c base p (Some ks) = ExitsAre q c (deepened k base (Some ks)) p (Some ks)
  ExitsAre (started l q) c base p (Some ks) = ExitsAre q c base p (Some ks)
  ExitsAre (numbered n q) c base p (Some ks) = ExitsAre q c base p (Some ks)
