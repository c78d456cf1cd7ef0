-- What laws say of pieces that are laid out.
use Rattle.std.specs.Prelude.{◌≡◌, ℕ, List, [], ◌∷◌, ◌++◌, false, Option, None}
use Rattle.pt_tree.specs.Syntax.{Name}
use Rattle.pt_instr.specs.declared.TextNo.{TextNo}
use Rattle.pt_code.specs.declared.Const.{Const}
use Rattle.pt_code.specs.declared.CodeBlock.{CodeBlock}
use Rattle.pt_code.specs.declared.Code.{Code}
use Rattle.pt_code.specs.View.{laid_from}
use Rattle.sem_code.specs.slots.CodeObject.{CodeObject}
use Rattle.sem_code.specs.slots.BlockObject.{pool_of}
use Rattle.pt_assembler.specs.declared.operation.Label.{Label}
use Rattle.pt_assembler.specs.declared.operation.Jump.TheVariants.{Leave}
use Rattle.pt_assembler.specs.declared.operation.Act.{Act}
use Rattle.pt_assembler.specs.declared.operation.Operation.TheVariants.{To}
use Rattle.pt_assembler.specs.declared.operation.Placed.{Placed}
use Rattle.pt_assembler.specs.Tables.{Begins}
use Rattle.pt_assembler.specs.Piece.{Piece}
use Rattle.pt_assembler.specs.PieceAt.{Piece_at, Fits}
use Rattle.pt_assembler.specs.Layout.{Written, at, begun, label_at, layout, instrs_of, bytes_of, marks_from}

-- the block is what was written, in a code whose tables have those of the writer and perhaps more
pub record IsBlockOf (w : Written) (code : Code) (block : CodeBlock) : Type 0 where
  pub texts : Begins w.texts code.texts
  pub constants : Begins w.constants code.constants
  pub lists : Begins w.lists code.lists
  pub locals : block.locals ≡ w.locals
  pub cells : block.cells ≡ w.cells
  pub free : block.free ≡ w.free
  pub instructions : block.instructions ≡ bytes_of w
  pub marks : block.marks ≡ marks_from 0 w.instrs
  pub handlers : block.handlers ≡ w.rows
  pub starts : block.starts ≡ w.starts

-- a code object that shows what was written, and names what its tables name
pub record Shows {V : Type 0} (w : Written) (code : Code) (block : CodeBlock) (object : CodeObject V) : Type 0 where
  pub view : object.at ≡ laid_from block 0 (instrs_of w)
  pub pool : object.pool ≡ pool_of code block
  -- as many slots lie where an instruction leaves to as its label says
  pub depths : (before behind : List Placed) (k : Label) (a : Option Act) → w.instrs ≡ before ++ record { operation = To Leave k; act = a } ∷ behind
      → object.depth_at (label_at w k).pc.0 ≡ (label_at w k).depth

-- a piece that is laid out from the start of a block stands in the block's code object, from its first place
abbrev pub StandsWhereLaid : (V : Type 0) → Type 0
StandsWhereLaid V = (p : Piece) (texts : List Name) (constants : List Const) (lists : List (List ℕ)) (locals cells free : List TextNo) (depth : ℕ)
    (code : Code) (block : CodeBlock) (object : CodeObject V)
    → Fits p [] false → IsBlockOf (layout p [] (begun texts constants lists locals cells free depth)) code block
    → Shows (layout p [] (begun texts constants lists locals cells free depth)) code block object
    → Piece_at object block.starts p [] (record { rows = []; depth = depth; around = None }) 0
    (at (layout p [] (begun texts constants lists locals cells free depth)))
