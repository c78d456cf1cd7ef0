use Rattle.std.proofs.lemmas.Result.{err_from_is_err_and}
use Rattle.pt_literals.specs.Literals.{literal}
use Rattle.pt_lexer.specs.Words.{plain, begun}
use Rattle.pt_lexer.proofs.ReadLemmas.{spoilt_literal, spoilt_string, longest_at_some, string_word, breaks_off, begun_at, string_none, string_some}
use Rattle.pt_lexer.proofs.words.word.Goals as goal

pub returns-in_err-found : goal.returns-in_err-found
returns-in_err-found c = λ end.
    let p = err_from_is_err_and c.from_residual.result c.from_residual.ensures.1 in
    rw (p.1, p.2) (spoilt_literal end c.args.mode c.args.text.now c.in_err-found.field-0.0 c.in_err-found.ensures)

pub returns-in_err-value-in-Holds : goal.returns-in_err-value-in-Holds
returns-in_err-value-in-Holds c = λ end.
    let p = err_from_is_err_and c.from_residual-in_err-value-in-Holds.result c.from_residual-in_err-value-in-Holds.ensures.1 in
    rw (p.1, p.2) (spoilt_string end c.args.mode c.args.text.now c.in-Holds.inner.now c.in-Holds.part c.in_err-value-in-Holds.field-0.0
    (begun_at (literal c.args.mode c.args.text.now) c.in_ok-found.ensures c.in-Holds.is) (c.in_err-value-in-Holds.ensures end))

pub returns-in_default : goal.returns-in_default
returns-in_default c = λ end. breaks_off end c.args.mode c.args.text.now c.in-Holds.inner.now c.in-Holds.part (begun_at (literal c.args.mode c.args.text.now) c.in_ok-found.ensures c.in-Holds.is) (string_none end c.in-Holds.part c.in-Holds.inner.now (c.in_ok-value-in-Holds.ensures end) c.in_default.is)

pub returns-in-Known : goal.returns-in-Known
returns-in-Known c = λ end. begun (begun_at (literal c.args.mode c.args.text.now) c.in_ok-found.ensures c.in-Known.is)

pub returns-in-Some : goal.returns-in-Some
returns-in-Some c = λ end.
    string_word c.args.mode c.args.text.now c.in-Holds.inner.now c.in-Some.rest.now c.in-Holds.part c.in-Some.value c.part_word.result (begun_at (literal c.args.mode c.args.text.now) c.in_ok-found.ensures c.in-Holds.is)
    (string_some end c.in-Holds.part c.in-Holds.inner.now (c.in_ok-value-in-Holds.ensures end) c.in-Some.is) c.part_word.ensures

pub returns-in-Some-2 : goal.returns-in-Some-2
returns-in-Some-2 c = λ end. plain (begun_at (literal c.args.mode c.args.text.now) c.in_ok-found.ensures c.in-Nothing.is) (longest_at_some c.in_ok-found-in-Nothing.ensures c.in-Some-2.is)
