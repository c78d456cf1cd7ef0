-- What a law says of the code of expressions that was written.
use Rattle.std.specs.Prelude.{ℕ, List, Bool}
use Rattle.pt_tree.specs.Syntax.{Exp}
use Rattle.pt_code.specs.declared.Start.{Start}
use Rattle.sem_code.specs.slots.CodeObject.{CodeObject}
use Rattle.pt_block_names.specs.declared.block_names.BlockNames.{BlockNames}
use Rattle.pt_block_names.specs.Named.{around}
use Rattle.pt_assembler.specs.declared.operation.Target.{Target}
use Rattle.pt_assembler.specs.PieceAt.{Context, Piece_at}
use Rattle.sem_code.specs.comp_expr.Places.{Exp_at}
use Rattle.pt_write_ops.specs.sem_compile.emitter.Laws.{Agrees}
use Rattle.pt_write_ops.specs.sem_compile.emitter.ExpPiece.{exp_piece}
use Rattle.pt_expr_forms.specs.Behind.{known}

-- where the piece that is written of an expression stands, there stands the code of the expression, whatever the value None is
abbrev pub WrittenIsCode : (V : Type 0) → Type 0
WrittenIsCode V = (null : V) (b : BlockNames) (code : CodeObject V) (starts : List Start) → Agrees (around null b) code → (e : Exp) (n : ℕ) (g : Bool)
    (v : List ℕ) (labels : List Target) (x : Context) (from to : ℕ) → Piece_at code starts (exp_piece (known b) e n g v) labels x from to
    → Exp_at (around null b) code x.rows e n g v from to
