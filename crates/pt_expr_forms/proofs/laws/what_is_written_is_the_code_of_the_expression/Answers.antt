use Rattle.std.proofs.Common.{sym, subst}
use Rattle.pt_assembler.specs.PieceAt.{Piece_at}
use Rattle.pt_block_names.specs.Named.{around}
use Rattle.pt_write_ops.proofs.sem_compile.emitter.Expressions.{piece_is_code}
use Rattle.pt_expr_forms.proofs.SameCode.{same-exp}
use Rattle.pt_expr_forms.proofs.laws.what_is_written_is_the_code_of_the_expression.Goals as goal

pub returns : goal.returns
returns t c = λ null b code starts agree e n g v labels x from to h.
    piece_is_code (around null b) code starts agree e n g v labels x from to
    (subst (λ p. Piece_at code starts p labels x from to) (sym (same-exp null b e n g v)) h)
