use Rattle.std.proofs.Common.{subst}
use Rattle.pt_tree.specs.StatementFold.{script_of}
use Rattle.pt_run_script.specs.ScriptRun.{ScriptBrokeOff}
use Rattle.pt_words.specs.Asked.{asked}
use Rattle.pt_prog.specs.Counted.{HasCounted}
use Rattle.pt_prog.proofs.RunLemmas.{every_err}
use Rattle.pt_prog.proofs.SummaryLemmas.{err_summed, front_summed, ok_summed}
use Rattle.pt_prog.proofs.summing.run_summed.Goals as goal

pub run_counted-requires-clause-read_prelude : goal.run_counted-requires-clause-read_prelude
run_counted-requires-clause-read_prelude g c = (c.requires.is_prelude.0, c.requires.is_prelude.1.is_script)

pub run_counted-requires-clause-built_prelude : goal.run_counted-requires-clause-built_prelude
run_counted-requires-clause-built_prelude g c = c.requires.is_prelude.1.is_built

pub returns-in_err-ran-clause-err : goal.returns-in_err-ran-clause-err
returns-in_err-ran-clause-err g c =
    let prelude = script_of c.args.prelude.now in let ss = script_of c.args.script.now in
    let broke = subst (λ b. ScriptBrokeOff prelude ss c.args.line.now.steps b (g.O.Sink.taken c.args.out.now) (g.O.Sink.taken c.run_counted.new.out)
    (g.L.Sink.taken c.args.log.now) (g.L.Sink.taken c.run_counted.new.log) c.in_err-ran.field-0.0) c.tells_events-events.ensures c.in_err-ran.ensures.err in
    every_err prelude (asked c.args.line.now) c.args.text.now _ _ _ _ c.from_residual.result _ c.from_residual.ensures
    (front_summed prelude (asked c.args.line.now) c.args.text.now ss (record { is_script = c.requires.is_script; is_built = c.requires.is_built }) c.requires.sums
    _ _ _ _ _ broke)

pub returns-clause-ok : goal.returns-clause-ok
returns-clause-ok g c =
    let prelude = script_of c.args.prelude.now in let ss = script_of c.args.script.now in
    let done = subst (λ b. HasCounted prelude ss c.args.line.now.steps b (g.O.Sink.taken c.args.out.now) (g.O.Sink.taken c.run_counted.new.out)
    (g.L.Sink.taken c.args.log.now) (g.L.Sink.taken c.run_counted.new.log) c.in_ok-ran.ran) c.tells_events-events.ensures c.in_ok-ran.ensures.ok in
    ok_summed prelude (asked c.args.line.now) c.args.text.now ss (record { is_script = c.requires.is_script; is_built = c.requires.is_built }) c.requires.sums
    _ _ _ _ c.in_ok-ran.ran done _ _ c.write_counted.result c.write_counted.ensures.ok

pub returns-clause-err : goal.returns-clause-err
returns-clause-err g c =
    let prelude = script_of c.args.prelude.now in let ss = script_of c.args.script.now in
    let done = subst (λ b. HasCounted prelude ss c.args.line.now.steps b (g.O.Sink.taken c.args.out.now) (g.O.Sink.taken c.run_counted.new.out)
    (g.L.Sink.taken c.args.log.now) (g.L.Sink.taken c.run_counted.new.log) c.in_ok-ran.ran) c.tells_events-events.ensures c.in_ok-ran.ensures.ok in
    err_summed prelude (asked c.args.line.now) c.args.text.now ss (record { is_script = c.requires.is_script; is_built = c.requires.is_built }) c.requires.sums
    _ _ _ _ c.in_ok-ran.ran done _ _ c.write_counted.result c.write_counted.ensures.err
