use Rattle.std.proofs.Common.{◌≡◌, ◌∙◌, subst}
use Rattle.pt_words.specs.Asked.{asked}
use Rattle.pt_sinks.specs.Writing.{Took, TookFront}
use Rattle.std.proofs.Common.{IfErr, IfOk}
use Rattle.pt_prog.specs.Counted.{ended_writes}
use Rattle.pt_prog.specs.LogText.{summary}
use Rattle.pt_prog.specs.RunEnds.{end_of_run}
use Rattle.pt_prog.proofs.SummaryLemmas.{err_after, err_before, ok_after}
use Rattle.pt_prog.proofs.summing.write_counted.Goals as goal

pub returns-in_err-end-clause-err : goal.returns-in_err-end-clause-err
returns-in_err-end-clause-err g c =
    let x = c.args.ran.now in
    err_before _ _ _ _ (ended_writes (asked c.args.line.now) c.args.text.now x.ended)
    (summary (end_of_run c.args.line.now.steps x.ended.end) x.ended.totals.acts x.lines)
    c.from_residual.result _ c.from_residual.ensures c.in_err-end.ensures.err

pub returns-clause-ok : goal.returns-clause-ok
returns-clause-ok g c =
    let x = c.args.ran.now in
    let ends = c.in_ok-end.ensures.ok.0 in
    ok_after _ _ _ _ _ _ (ended_writes (asked c.args.line.now) c.args.text.now x.ended)
    (summary (end_of_run c.args.line.now.steps x.ended.end) x.ended.totals.acts x.lines)
    c.in_ok-end.ensures.ok.1 (λ e. e ≡ end_of_run c.args.line.now.steps x.ended.end) c.write_summary.result
    (subst (λ z. IfOk c.write_summary.result (λ e. (e ≡ z) × Took (g.O.Sink.taken c.write_ended.new.out) (g.O.Sink.taken c.write_summary.new.out)
    (g.L.Sink.taken c.write_ended.new.log) (g.L.Sink.taken c.write_summary.new.log) (summary z x.ended.totals.acts x.lines))) ends c.write_summary.ensures.ok)

pub returns-clause-err : goal.returns-clause-err
returns-clause-err g c =
    let x = c.args.ran.now in
    let ends = c.in_ok-end.ensures.ok.0 in
    err_after _ _ _ _ _ _ (ended_writes (asked c.args.line.now) c.args.text.now x.ended)
    (summary (end_of_run c.args.line.now.steps x.ended.end) x.ended.totals.acts x.lines)
    c.in_ok-end.ensures.ok.1 c.write_summary.result
    (subst (λ z. IfErr c.write_summary.result (λ why. TookFront (g.O.Sink.taken c.write_ended.new.out) (g.O.Sink.taken c.write_summary.new.out)
    (g.L.Sink.taken c.write_ended.new.log) (g.L.Sink.taken c.write_summary.new.log) why (summary z x.ended.totals.acts x.lines))) ends c.write_summary.ensures.err)
