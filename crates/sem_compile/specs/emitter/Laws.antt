-- What laws say of the code of expressions in pieces.
use Rattle.std.specs.Prelude.{◌≡◌, ℕ, List, Bool}
use Rattle.pt_tree.specs.Syntax.{Name, Exp}
use Rattle.pt_code.specs.declared.Start.{Start}
use Rattle.sem_control.specs.control.Turn as T
use Rattle.sem_control.specs.control.Turn.{Around}
use Rattle.sem_code.specs.slots.CodeObject.{CodeObject}
use Rattle.pt_assembler.specs.declared.operation.Target.{Target}
use Rattle.pt_assembler.specs.PieceAt.{Context, Piece_at}
use Rattle.sem_code.specs.comp_expr.Places.{count, Exp_at}
use Rattle.sem_compile.specs.emitter.ExpPiece.{exp_piece}

-- what control knows of a block is what its code object has: the value None, as many free names for each block in it as it takes cells along, and
-- names of a class body in a class body alone
pub record Agrees {V : Type 0} (block : Around V) (code : CodeObject V) : Type 0 where
  pub null : code.null ≡ block.null
  pub captures : (b : ℕ) → code.pool.captures b ≡ count (block.captured b)
  pub of_class : (within : List ℕ) (x : Name) → (block.variable within x).scope ≡ T.of_class → code.pool.name_scope ≡ T.of_class

-- where the piece of an expression stands, there stands the code of the expression
abbrev pub PieceIsCode : (V : Type 0) → Type 0
PieceIsCode V = (block : Around V) (code : CodeObject V) (starts : List Start) → Agrees block code → (e : Exp) (n : ℕ) (g : Bool) (v : List ℕ)
    (labels : List Target) (x : Context) (from to : ℕ) → Piece_at code starts (exp_piece block e n g v) labels x from to
    → Exp_at block code x.rows e n g v from to
