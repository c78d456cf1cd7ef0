use Rattle.std.proofs.Common.{Err, ◌∙◌, sym, ap, subst, length, map, inl, inr, Ok}
use Rattle.pt_wide.specs.StatementFold.{stm_of}
use Rattle.pt_readers.specs.Whole.{Tells}
use Rattle.pt_readers.specs.declared.halt.Halt.TheVariants.{Unexpected, Limit}
use Rattle.pt_grammar.specs.Lexemes.{lexemes}
use Rattle.pt_expr.specs.Answers.{place_at}
use Rattle.pt_parser.specs.Script.{a_script}
use Rattle.pt_parser.proofs.ScriptLemmas.{ok_told, err_told, no_length}
use Rattle.pt_parser.proofs.script.wide_script.Goals as goal

pub returns-then-left-eq0 : goal.returns-then-left-eq0
returns-then-left-eq0 c = subst (λ r. Tells a_script (lexemes c.args.tokens.now) r (Ok (map stm_of c.up_to-answer.new.all))) (no_length _ (sym c.len-left.ensures ∙ c.if-left-eq0.true))
    (ok_told (lexemes c.args.tokens.now) _ _ _ c.new-reader.ensures (rw c.new-body.ensures at c.in-Ok.ensures))

pub returns-in-Ok : goal.returns-in-Ok
returns-in-Ok c = (
  c.up_to-answer.new.self,
  inr (
    map stm_of c.up_to-answer.new.all,
    ok_told (lexemes c.args.tokens.now) _ _ _ c.new-reader.ensures (rw c.new-body.ensures at c.in-Ok.ensures),
    λ e. c.if-left-eq0.false (c.len-left.ensures ∙ ap length e),
  ),
  c.place.ensures ∙ ap (λ n. place_at c.args.tokens.now n) c.len-left.ensures,
)

pub returns-in-Unexpected : goal.returns-in-Unexpected
returns-in-Unexpected c = (
  c.up_to-answer.new.self,
  inl (err_told (λ u. map stm_of c.up_to-answer.new.all) (lexemes c.args.tokens.now) _ _ c.up_to-answer.result Unexpected c.new-reader.ensures (c.in-Err.is ∙ ap (λ h. Err h) c.in-Unexpected.is)
      (rw c.new-body.ensures at c.up_to-answer.ensures)),
  c.place-in-Unexpected.ensures ∙ ap (λ n. place_at c.args.tokens.now n) c.len-left.ensures,
)

pub returns-in-Limit : goal.returns-in-Limit
returns-in-Limit c = (
  c.up_to-answer.new.self,
  err_told (λ u. map stm_of c.up_to-answer.new.all) (lexemes c.args.tokens.now) _ _ c.up_to-answer.result Limit c.new-reader.ensures (c.in-Err.is ∙ ap (λ h. Err h) c.in-Limit.is)
      (rw c.new-body.ensures at c.up_to-answer.ensures),
  c.line.ensures,
)
