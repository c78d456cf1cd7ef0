use Rattle.std.proofs.Common.{Err, ◌∙◌, ap, drop, length, ◌-◌, ◌+◌}
use Rattle.pt_wide.specs.Fold.{exp_of}
use Rattle.pt_grammar.specs.Lexemes.{lexemes}
use Rattle.pt_expr.specs.Answers.{place_at}
use Rattle.pt_readers.specs.declared.halt.Halt.TheVariants.{Unexpected, Limit}
use Rattle.pt_expr.proofs.Told.{ok_told, err_told}
use Rattle.pt_expr.proofs.front.wide.Goals as goal

pub returns-in-Ok : goal.returns-in-Ok
returns-in-Ok c = (
  c.read-answer.new.reader.lexemes,
  (
    ok_told c.args.part (lexemes (drop c.args.at c.args.tokens.now)) _ _ (exp_of c.into_inner.result) (c.new-reader.ensures ∙ ap lexemes c.from-tokens.ensures) (rw c.into_inner.ensures c.in-Ok.ensures),
    ap (λ n. c.args.at + (length c.from-tokens.result.now - n)) c.len-left.ensures ∙ ap (λ u. c.args.at + (length u - length c.read-answer.new.reader.lexemes)) c.from-tokens.ensures,
  ),
)

pub returns-in-Unexpected : goal.returns-in-Unexpected
returns-in-Unexpected c = (
  c.read-answer.new.reader.lexemes,
  (
    err_told (λ e. exp_of e.tree) c.args.part (lexemes (drop c.args.at c.args.tokens.now)) _ _ c.read-answer.result Unexpected (c.new-reader.ensures ∙ ap lexemes c.from-tokens.ensures)
        (c.in-Err.is ∙ ap (λ h. Err h) c.in-Unexpected.is) c.read-answer.ensures,
    c.place.ensures ∙ ap (λ n. place_at c.from-tokens.result.now n) c.len-left.ensures ∙ ap (λ u. place_at u (length c.read-answer.new.reader.lexemes)) c.from-tokens.ensures,
  ),
)

pub returns-in-Limit : goal.returns-in-Limit
returns-in-Limit c = (
  c.read-answer.new.reader.lexemes,
  (
    err_told (λ e. exp_of e.tree) c.args.part (lexemes (drop c.args.at c.args.tokens.now)) _ _ c.read-answer.result Limit (c.new-reader.ensures ∙ ap lexemes c.from-tokens.ensures)
        (c.in-Err.is ∙ ap (λ h. Err h) c.in-Limit.is) c.read-answer.ensures,
    c.line.ensures,
  ),
)
