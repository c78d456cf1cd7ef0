use Rattle.std.proofs.Common.{◌-◌, ◌+◌, ap, subst, ◌∙◌}
use Rattle.std.proofs.lemmas.Result.{err_from_is_err_and}
use Rattle.pt_code.specs.Reading.{Fails, items_at, with_front}
use Rattle.pt_code.proofs.Rows.{one_more, row_fails}
use Rattle.pt_code.proofs.lists.items_behind.Goals as goal

pub loop-counter-preserved : goal.loop-counter-preserved
loop-counter-preserved g c =
    ap (λ front. with_front front (items_at (g.T.Readable.reading c.args.within) (c.args.count - (c.loop-counter.counter + 1)) c.in_ok-item.behind.now)) c.in_ok-push.ensures.ok
    ∙ one_more (g.T.Readable.reading c.args.within) c.loop-counter.items c.args.count c.loop-counter.counter c.loop-counter.rest.now c.in_ok-item.behind.now c.in_ok-item.item c.loop-counter-test.true c.in_ok-item.ensures
    ∙ c.loop-counter.invariant

pub returns-in_err-item : goal.returns-in_err-item
returns-in_err-item g c =
    let p = err_from_is_err_and c.from_residual.result c.from_residual.ensures.1 in
    rw (p.1, p.2) (subst (Fails c.in_err-item.field-0.0) c.loop-counter.invariant (row_fails (g.T.Readable.reading c.args.within) c.loop-counter.items c.args.count c.loop-counter.counter c.loop-counter.rest.now c.in_err-item.field-0.0 c.loop-counter-test.true c.in_err-item.ensures))
