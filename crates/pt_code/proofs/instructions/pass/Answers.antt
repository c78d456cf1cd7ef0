use Rattle.std.proofs.Common.{sym, subst, ◌∙◌}
use Rattle.std.proofs.lemmas.Result.{err_from_is_err_and}
use Rattle.pt_code.specs.Reading.{Fails}
use Rattle.pt_code.proofs.Rows.{passed, pass_fails}
use Rattle.pt_code.proofs.instructions.pass.Goals as goal

pub returns-in_err-behind : goal.returns-in_err-behind
returns-in_err-behind c =
    let p = err_from_is_err_and c.from_residual.result c.from_residual.ensures.1 in
    rw (p.1, p.2) (subst (Fails c.in_err-behind.field-0.0) c.loop-counter.invariant (pass_fails c.args.within c.args.count c.loop-counter.counter c.loop-counter.left c.loop-counter.rest.now c.in_err-behind.field-0.0 c.loop-counter-test.true c.if-left-eq0.false c.in_err-behind.ensures))

pub loop-counter-preserved : goal.loop-counter-preserved
loop-counter-preserved c =
    sym (passed c.args.within c.args.count c.loop-counter.counter c.loop-counter.left c.in_ok-behind.less c.loop-counter.rest.now c.in_ok-behind.behind.now c.loop-counter-test.true c.if-left-eq0.false c.in_ok-behind.ensures)
    ∙ c.loop-counter.invariant
