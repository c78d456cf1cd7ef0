use Rattle.std.proofs.Common.{subst}
use Rattle.pt_tree.specs.StatementFold.{script_of}
use Rattle.pt_run_script.specs.ScriptRun.{ScriptBrokeOff, ScriptFinished}
use Rattle.pt_words.specs.Asked.{asked}
use Rattle.pt_prog.specs.Answer.{script_read}
use Rattle.pt_prog.proofs.RunLemmas.{every_err, front_of_run, front_of_totals, ok_behind, err_behind, script_says, script_taken}
use Rattle.pt_prog.proofs.running.run_plainly.Goals as goal

pub run_script-requires-clause-read_prelude : goal.run_script-requires-clause-read_prelude
run_script-requires-clause-read_prelude g c = (c.requires.is_prelude.0, c.requires.is_prelude.1.is_script)

pub run_script-requires-clause-built_prelude : goal.run_script-requires-clause-built_prelude
run_script-requires-clause-built_prelude g c = c.requires.is_prelude.1.is_built

pub returns-in_err-ended-clause-err : goal.returns-in_err-ended-clause-err
returns-in_err-ended-clause-err g c =
    let broke = subst (λ b. ScriptBrokeOff (script_of c.args.prelude.now) (script_of c.args.script.now) c.args.line.now.steps b (g.O.Sink.taken c.args.out.now) (g.O.Sink.taken c.run_script.new.out)
    (g.L.Sink.taken c.args.log.now) (g.L.Sink.taken c.run_script.new.log) c.in_err-ended.field-0.0) c.tells_events-events.ensures c.in_err-ended.ensures.err in
    every_err (script_of c.args.prelude.now) (asked c.args.line.now) c.args.text.now _ _ _ _ c.from_residual.result _ c.from_residual.ensures
    (front_of_run (script_of c.args.prelude.now) (asked c.args.line.now) c.args.text.now (script_of c.args.script.now)
    (record { is_script = c.requires.is_script; is_built = c.requires.is_built }) c.requires.is_run c.requires.reports_nothing _ _ _ _ _ broke)

pub returns-in_err-write_totals-clause-err : goal.returns-in_err-write_totals-clause-err
returns-in_err-write_totals-clause-err g c =
    let done = subst (λ b. ScriptFinished (script_of c.args.prelude.now) (script_of c.args.script.now) c.args.line.now.steps b (g.O.Sink.taken c.args.out.now) (g.O.Sink.taken c.run_script.new.out)
    (g.L.Sink.taken c.args.log.now) (g.L.Sink.taken c.run_script.new.log) c.in_ok-ended.ended) c.tells_events-events.ensures c.in_ok-ended.ensures.ok in
    every_err (script_of c.args.prelude.now) (asked c.args.line.now) c.args.text.now _ _ _ _ c.from_residual-in_err-write_totals.result _ c.from_residual-in_err-write_totals.ensures
    (front_of_totals (script_of c.args.prelude.now) (asked c.args.line.now) c.args.text.now (script_read (asked c.args.line.now) c.args.text.now (script_of c.args.prelude.now) (script_of c.args.script.now)) c.in_ok-ended.ended done.outcome done.work (script_says (script_of c.args.prelude.now) (asked c.args.line.now) c.args.text.now (script_of c.args.script.now) (record { is_script = c.requires.is_script; is_built = c.requires.is_built }) c.requires.is_run c.requires.reports_nothing c.requires.sums_nothing c.in_ok-ended.ended _ _ _ _ done) _ _ _ _ (script_taken (script_of c.args.prelude.now) (asked c.args.line.now) c.args.text.now (script_of c.args.script.now) (record { is_script = c.requires.is_script; is_built = c.requires.is_built }) c.requires.is_run c.requires.reports_nothing c.requires.sums_nothing c.in_ok-ended.ended _ _ _ _ done) _ _ _
    c.in_err-write_totals.ensures.err)

pub returns-clause-ok : goal.returns-clause-ok
returns-clause-ok g c =
    let done = subst (λ b. ScriptFinished (script_of c.args.prelude.now) (script_of c.args.script.now) c.args.line.now.steps b (g.O.Sink.taken c.args.out.now) (g.O.Sink.taken c.run_script.new.out)
    (g.L.Sink.taken c.args.log.now) (g.L.Sink.taken c.run_script.new.log) c.in_ok-ended.ended) c.tells_events-events.ensures c.in_ok-ended.ensures.ok in
    ok_behind (script_of c.args.prelude.now) (asked c.args.line.now) c.args.text.now (script_read (asked c.args.line.now) c.args.text.now (script_of c.args.prelude.now) (script_of c.args.script.now)) c.in_ok-ended.ended done.outcome done.work (script_says (script_of c.args.prelude.now) (asked c.args.line.now) c.args.text.now (script_of c.args.script.now) (record { is_script = c.requires.is_script; is_built = c.requires.is_built }) c.requires.is_run c.requires.reports_nothing c.requires.sums_nothing c.in_ok-ended.ended _ _ _ _ done) _ _ _ _ (script_taken (script_of c.args.prelude.now) (asked c.args.line.now) c.args.text.now (script_of c.args.script.now) (record { is_script = c.requires.is_script; is_built = c.requires.is_built }) c.requires.is_run c.requires.reports_nothing c.requires.sums_nothing c.in_ok-ended.ended _ _ _ _ done) _ _ _ _
    c.in_ok-write_totals.ensures.ok c.write_last.result c.write_last.ensures.ok

pub returns-clause-err : goal.returns-clause-err
returns-clause-err g c =
    let done = subst (λ b. ScriptFinished (script_of c.args.prelude.now) (script_of c.args.script.now) c.args.line.now.steps b (g.O.Sink.taken c.args.out.now) (g.O.Sink.taken c.run_script.new.out)
    (g.L.Sink.taken c.args.log.now) (g.L.Sink.taken c.run_script.new.log) c.in_ok-ended.ended) c.tells_events-events.ensures c.in_ok-ended.ensures.ok in
    err_behind (script_of c.args.prelude.now) (asked c.args.line.now) c.args.text.now (script_read (asked c.args.line.now) c.args.text.now (script_of c.args.prelude.now) (script_of c.args.script.now)) c.in_ok-ended.ended done.outcome done.work (script_says (script_of c.args.prelude.now) (asked c.args.line.now) c.args.text.now (script_of c.args.script.now) (record { is_script = c.requires.is_script; is_built = c.requires.is_built }) c.requires.is_run c.requires.reports_nothing c.requires.sums_nothing c.in_ok-ended.ended _ _ _ _ done) _ _ _ _ (script_taken (script_of c.args.prelude.now) (asked c.args.line.now) c.args.text.now (script_of c.args.script.now) (record { is_script = c.requires.is_script; is_built = c.requires.is_built }) c.requires.is_run c.requires.reports_nothing c.requires.sums_nothing c.in_ok-ended.ended _ _ _ _ done) _ _ _ _
    c.in_ok-write_totals.ensures.ok c.write_last.result c.write_last.ensures.err
