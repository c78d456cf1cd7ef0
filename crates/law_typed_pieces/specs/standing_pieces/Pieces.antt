-- Pieces whose instructions may stand in a block of a kind, whatever numbers their operands have.
use Rattle.std.specs.Prelude.{◌≡◌, Bool, true, not, ◌&&◌}
use Rattle.pt_instr.specs.declared.TextNo.{TextNo}
use Rattle.pt_instr.specs.declared.ListNo.{ListNo}
use Rattle.pt_instr.specs.declared.SlotNo.{SlotNo}
use Rattle.pt_instr.specs.declared.Instr.{Instr}
use Rattle.pt_code.specs.declared.BlockKind.{BlockKind}
use Rattle.pt_assembler.specs.Piece as P
use Rattle.pt_assembler.specs.Piece.{Op, Piece}
use Rattle.sem_fits.specs.fits.Block.{Links}
use Rattle.sem_fits.specs.fits.Standing.{may_stand}
use Rattle.law_pieces.specs.piece_kinds.Exits.{is_leave}

-- it may stand there, and is no exit of a loop, which is a piece of its own
abbrev pub stands : BlockKind → Links → Instr → Bool
stands k links i = may_stand k links i && not (is_leave i)

abbrev pub StandsOp : BlockKind → Links → Op → Type 0
StandsOp k links (P.plain i) = stands k links i ≡ true
StandsOp k links (P.with_local f x) = (i : SlotNo) → stands k links (f i) ≡ true
StandsOp k links (P.with_cell f x) = (i : SlotNo) → stands k links (f i) ≡ true
StandsOp k links (P.with_text f x) = (t : TextNo) → stands k links (f t) ≡ true
StandsOp k links (P.with_list f xs) = (l : ListNo) → links.texts l.0 ≡ xs → stands k links (f l) ≡ true
StandsOp k links op = Unit {0}

abbrev pub StandsPiece : BlockKind → Links → Piece → Type 0
StandsPiece k links (P.act op n l g) = StandsOp k links op
StandsPiece k links (P.move op) = StandsOp k links op
StandsPiece k links (P.seq a b) = StandsPiece k links a × StandsPiece k links b
StandsPiece k links (P.block p) = StandsPiece k links p
StandsPiece k links (P.headed p) = StandsPiece k links p
StandsPiece k links (P.closed p) = StandsPiece k links p
StandsPiece k links (P.looped b p) = StandsPiece k links p
StandsPiece k links (P.ensured p) = StandsPiece k links p
StandsPiece k links (P.caught p q) = StandsPiece k links p × StandsPiece k links q
StandsPiece k links (P.deeper n p) = StandsPiece k links p
StandsPiece k links (P.started l p) = StandsPiece k links p
StandsPiece k links (P.numbered n p) = StandsPiece k links p
StandsPiece k links p = Unit {0}
