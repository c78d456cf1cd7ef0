-- What laws say of the agreement of blocks.
use Rattle.std.specs.Prelude.{◌≡◌, ℕ, List, [], length, false, None}
use Rattle.pt_tree.specs.Blocks.{Code}
use Rattle.pt_ranges.specs.declared.handlers.Handler.{Handler}
use Rattle.pt_base.specs.declared.numbers.Pc.{Pc}
use Rattle.pt_instr.specs.declared.Instr.TheVariants.{Leave}
use Rattle.pt_instr.specs.Effects.{Kinds}
use Rattle.pt_code.specs.declared.Start.{Start}
use Rattle.pt_code.specs.View.{Ins}
use Rattle.sem_control.specs.control.Turn.{Around}
use Rattle.sem_code.specs.slots.CodeObject.{CodeObject}
use Rattle.pt_assembler.specs.PieceAt.{Piece_at}
use Rattle.sem_fits.specs.fits.Block.{Block, kinds_at_start}
use Rattle.sem_fits.specs.fits.Places.{Reached}
use Rattle.sem_fits.specs.fits.Standing.{may_stand}
use Rattle.sem_fits.specs.fits.Agreement.{LengthsMeet, HandlerFails, TooFew, KindsClash, Strays}
use Rattle.law_operands.specs.law_files.sem_compile.stm_pieces.Names.{TakesCells, Code_named}
use Rattle.law_operands.specs.law_files.sem_compile.stm_pieces.Laws.{outermost, slots_of}
use Rattle.law_operands.specs.law_files.sem_compile.stm_pieces.StmPiece.{code_piece}
use Rattle.law_pieces.specs.piece_kinds.Walk.{kinds_of}
use Rattle.law_pieces.specs.piece_kinds.Table.{Rises}
use Rattle.law_typed_pieces.specs.typed_pieces.Laws.{first_slots}

-- an instruction that may not stand in such a block
pub record Misplaced (b : Block) : Type 0 where
  pub pc : ℕ
  pub ins : Ins
  pub kinds : Kinds
  pub reached : Reached b b.size pc ins kinds
  pub misplaced : may_stand b.kind b.links ins.instr ≡ false

-- a Leave to where no instruction stands
pub record StrayLeave (b : Block) : Type 0 where
  pub pc : ℕ
  pub ins : Ins
  pub kinds : Kinds
  pub reached : Reached b b.size pc ins kinds
  pub target : Pc
  pub leaves : ins.instr ≡ Leave target
  pub nowhere : b.at target.0 ≡ None

-- no failure of a block but these two
pub record MostlyAgrees (b : Block) : Type 0 where
  pub lengths : LengthsMeet b b.size → ⊥
  pub handlers : (row : Handler) → HandlerFails b b.size row → ⊥
  pub enough : TooFew b b.size → ⊥
  pub kinds : KindsClash b b.size → Misplaced b
  pub inside : Strays b b.size → StrayLeave b

abbrev pub BlocksAgree : (A V : Type 0) → Type 0
BlocksAgree A V = (around : Around A) (c : Code) (code : CodeObject V) (starts : List Start) (b : Block) → TakesCells around
    → ((n : ℕ) → b.links.captures n ≡ length (around.captured n)) → Code_named around c → ((pc : ℕ) → code.at pc ≡ b.at pc) → Rises b
    → Piece_at code starts (code_piece around c) [] (outermost (slots_of c)) 0 b.size → kinds_at_start b.kind ≡ kinds_of (first_slots c) → MostlyAgrees b
