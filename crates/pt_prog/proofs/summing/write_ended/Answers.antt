use Rattle.pt_words.specs.Asked.{asked}
use Rattle.pt_prog.specs.LogText.{totals}
use Rattle.pt_prog.specs.RunEnds.{end_of_run, last_of_run}
use Rattle.std.proofs.Common.{◌≡◌, Some}
use Rattle.pt_prog.proofs.SummaryLemmas.{err_after, err_before, ok_after}
use Rattle.pt_prog.proofs.summing.write_ended.Goals as goal

pub returns-in_err-write_totals-clause-err : goal.returns-in_err-write_totals-clause-err
returns-in_err-write_totals-clause-err g c =
    let t = c.args.ran.now.totals in
    err_before _ _ _ _ (totals c.args.line.now.stats t.acts t.instructions t.depth)
    (last_of_run c.args.line.now.script.now (Some c.args.text.now) c.args.line.now.steps c.args.ran.now.end)
    c.from_residual.result _ c.from_residual.ensures c.in_err-write_totals.ensures.err

pub returns-clause-ok : goal.returns-clause-ok
returns-clause-ok g c =
    let t = c.args.ran.now.totals in
    ok_after _ _ _ _ _ _ (totals c.args.line.now.stats t.acts t.instructions t.depth)
    (last_of_run c.args.line.now.script.now (Some c.args.text.now) c.args.line.now.steps c.args.ran.now.end)
    c.in_ok-write_totals.ensures.ok (λ e. e ≡ end_of_run c.args.line.now.steps c.args.ran.now.end) c.write_last.result c.write_last.ensures.ok

pub returns-clause-err : goal.returns-clause-err
returns-clause-err g c =
    let t = c.args.ran.now.totals in
    err_after _ _ _ _ _ _ (totals c.args.line.now.stats t.acts t.instructions t.depth)
    (last_of_run c.args.line.now.script.now (Some c.args.text.now) c.args.line.now.steps c.args.ran.now.end)
    c.in_ok-write_totals.ensures.ok c.write_last.result c.write_last.ensures.err
