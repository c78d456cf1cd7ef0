use Rattle.std.proofs.Common.{◌≡◌, refl, subst}
use Rattle.pt_tree.specs.StatementFold.{script_of}
use Rattle.law_files.specs.sem_compile.compile.ScriptCode.{code_of}
use Rattle.pt_run_script.specs.pt_run_code.law_loading.code_program.Laws.{IsRunnable}
use Rattle.pt_run_script.specs.pt_run_code.CodeRun.{CodeBrokeOff, CodeFinished}
use Rattle.pt_words.specs.Asked.{asked}
use Rattle.pt_prog.specs.LogText.{final}
use Rattle.pt_prog.specs.Answer.{IsRunnableFile, code_read, of_code, tells_events, unbuilt_code}
use Rattle.pt_prog.specs.declared.end.End.TheVariants as end
use Rattle.pt_prog.proofs.RunLemmas.{code_says, code_taken, every_err, every_err_of, every_ok_of, front_of_code_run, front_of_totals, ok_behind, err_behind, runnable, unbuilt_file}
use Rattle.pt_prog.proofs.exec.run_verified.Goals as goal

pub run_code-requires-clause-prelude : goal.run_code-requires-clause-prelude
run_code-requires-clause-prelude g c = c.in_ok-hidden_code.ensures.1

pub run_code-requires-clause-code : goal.run_code-requires-clause-code
run_code-requires-clause-code g c =
    let is : IsRunnableFile c.args.bytes.now c.args.code.now =
    runnable c.args.bytes.now c.args.code.now c.requires.verified.is_file c.requires.verified.fits c.in_ok-found.found c.in_ok-found.ensures c.in_default.is in is.is_runnable

pub returns-in-Some-clause-ok : goal.returns-in-Some-clause-ok
returns-in-Some-clause-ok g c =
    every_ok_of (script_of c.args.prelude.now) (asked c.args.line.now) c.args.bytes.now _ _ _ _ c.write_final.result (final (end.Unbuilt c.in-Some.first)) (end.Unbuilt c.in-Some.first)
    (of_code c.requires.reads (unbuilt_code c.in-Some.first
    (unbuilt_file c.args.bytes.now c.args.code.now c.requires.verified.is_file c.requires.verified.fits c.in_ok-found.found c.in-Some.first c.in_ok-found.ensures c.in-Some.is) refl refl))
    c.write_final.ensures.ok

pub returns-in-Some-clause-err : goal.returns-in-Some-clause-err
returns-in-Some-clause-err g c =
    every_err_of (script_of c.args.prelude.now) (asked c.args.line.now) c.args.bytes.now _ _ _ _ c.write_final.result (final (end.Unbuilt c.in-Some.first)) (end.Unbuilt c.in-Some.first)
    (of_code c.requires.reads (unbuilt_code c.in-Some.first
    (unbuilt_file c.args.bytes.now c.args.code.now c.requires.verified.is_file c.requires.verified.fits c.in_ok-found.found c.in-Some.first c.in_ok-found.ensures c.in-Some.is) refl refl))
    c.write_final.ensures.err

pub returns-in_err-ended-clause-err : goal.returns-in_err-ended-clause-err
returns-in_err-ended-clause-err g c =
    let prelude = script_of c.args.prelude.now in
    let same : c.in_ok-hidden_code.hidden_code ≡ code_of prelude = c.in_ok-hidden_code.ensures.0 in
    let ready = subst IsRunnable same c.in_ok-hidden_code.ensures.1 in
    let is = runnable c.args.bytes.now c.args.code.now c.requires.verified.is_file c.requires.verified.fits c.in_ok-found.found c.in_ok-found.ensures c.in_default.is in
    let broke = subst (λ p. CodeBrokeOff p c.args.code.now c.args.line.now.steps (tells_events (asked c.args.line.now)) (g.O.Sink.taken c.args.out.now) (g.O.Sink.taken c.run_code.new.out)
    (g.L.Sink.taken c.args.log.now) (g.L.Sink.taken c.run_code.new.log) c.in_err-ended.field-0.0) same
    (subst (λ b. CodeBrokeOff c.in_ok-hidden_code.hidden_code c.args.code.now c.args.line.now.steps b (g.O.Sink.taken c.args.out.now) (g.O.Sink.taken c.run_code.new.out)
    (g.L.Sink.taken c.args.log.now) (g.L.Sink.taken c.run_code.new.log) c.in_err-ended.field-0.0) c.tells_events-events.ensures c.in_err-ended.ensures.err) in
    every_err prelude (asked c.args.line.now) c.args.bytes.now _ _ _ _ c.from_residual-in_err-ended.result _ c.from_residual-in_err-ended.ensures
    (front_of_code_run prelude (asked c.args.line.now) c.args.bytes.now c.args.code.now ready is c.requires.reads _ _ _ _ _ broke)

pub returns-in_err-write_totals-clause-err : goal.returns-in_err-write_totals-clause-err
returns-in_err-write_totals-clause-err g c =
    let prelude = script_of c.args.prelude.now in
    let same : c.in_ok-hidden_code.hidden_code ≡ code_of prelude = c.in_ok-hidden_code.ensures.0 in
    let ready = subst IsRunnable same c.in_ok-hidden_code.ensures.1 in
    let a = asked c.args.line.now in
    let is = runnable c.args.bytes.now c.args.code.now c.requires.verified.is_file c.requires.verified.fits c.in_ok-found.found c.in_ok-found.ensures c.in_default.is in
    let done = subst (λ p. CodeFinished p c.args.code.now c.args.line.now.steps (tells_events (asked c.args.line.now)) (g.O.Sink.taken c.args.out.now) (g.O.Sink.taken c.run_code.new.out)
    (g.L.Sink.taken c.args.log.now) (g.L.Sink.taken c.run_code.new.log) c.in_ok-ended.ended) same
    (subst (λ b. CodeFinished c.in_ok-hidden_code.hidden_code c.args.code.now c.args.line.now.steps b (g.O.Sink.taken c.args.out.now) (g.O.Sink.taken c.run_code.new.out)
    (g.L.Sink.taken c.args.log.now) (g.L.Sink.taken c.run_code.new.log) c.in_ok-ended.ended) c.tells_events-events.ensures c.in_ok-ended.ensures.ok) in
    every_err prelude a c.args.bytes.now _ _ _ _ c.from_residual-in_err-write_totals.result _ c.from_residual-in_err-write_totals.ensures
    (front_of_totals prelude a c.args.bytes.now (code_read a (code_of prelude) c.args.code.now) c.in_ok-ended.ended done.outcome done.work
    (code_says prelude a c.args.bytes.now c.args.code.now ready is c.requires.reads c.in_ok-ended.ended _ _ _ _ done) _ _ _ _
    (code_taken prelude a c.args.bytes.now c.args.code.now ready is c.requires.reads c.in_ok-ended.ended _ _ _ _ done) _ _ _ c.in_err-write_totals.ensures.err)

pub returns-clause-ok : goal.returns-clause-ok
returns-clause-ok g c =
    let prelude = script_of c.args.prelude.now in
    let same : c.in_ok-hidden_code.hidden_code ≡ code_of prelude = c.in_ok-hidden_code.ensures.0 in
    let ready = subst IsRunnable same c.in_ok-hidden_code.ensures.1 in
    let a = asked c.args.line.now in
    let is = runnable c.args.bytes.now c.args.code.now c.requires.verified.is_file c.requires.verified.fits c.in_ok-found.found c.in_ok-found.ensures c.in_default.is in
    let done = subst (λ p. CodeFinished p c.args.code.now c.args.line.now.steps (tells_events (asked c.args.line.now)) (g.O.Sink.taken c.args.out.now) (g.O.Sink.taken c.run_code.new.out)
    (g.L.Sink.taken c.args.log.now) (g.L.Sink.taken c.run_code.new.log) c.in_ok-ended.ended) same
    (subst (λ b. CodeFinished c.in_ok-hidden_code.hidden_code c.args.code.now c.args.line.now.steps b (g.O.Sink.taken c.args.out.now) (g.O.Sink.taken c.run_code.new.out)
    (g.L.Sink.taken c.args.log.now) (g.L.Sink.taken c.run_code.new.log) c.in_ok-ended.ended) c.tells_events-events.ensures c.in_ok-ended.ensures.ok) in
    ok_behind prelude a c.args.bytes.now (code_read a (code_of prelude) c.args.code.now) c.in_ok-ended.ended done.outcome done.work
    (code_says prelude a c.args.bytes.now c.args.code.now ready is c.requires.reads c.in_ok-ended.ended _ _ _ _ done) _ _ _ _
    (code_taken prelude a c.args.bytes.now c.args.code.now ready is c.requires.reads c.in_ok-ended.ended _ _ _ _ done) _ _ _ _
    c.in_ok-write_totals.ensures.ok c.write_last.result c.write_last.ensures.ok

pub returns-clause-err : goal.returns-clause-err
returns-clause-err g c =
    let prelude = script_of c.args.prelude.now in
    let same : c.in_ok-hidden_code.hidden_code ≡ code_of prelude = c.in_ok-hidden_code.ensures.0 in
    let ready = subst IsRunnable same c.in_ok-hidden_code.ensures.1 in
    let a = asked c.args.line.now in
    let is = runnable c.args.bytes.now c.args.code.now c.requires.verified.is_file c.requires.verified.fits c.in_ok-found.found c.in_ok-found.ensures c.in_default.is in
    let done = subst (λ p. CodeFinished p c.args.code.now c.args.line.now.steps (tells_events (asked c.args.line.now)) (g.O.Sink.taken c.args.out.now) (g.O.Sink.taken c.run_code.new.out)
    (g.L.Sink.taken c.args.log.now) (g.L.Sink.taken c.run_code.new.log) c.in_ok-ended.ended) same
    (subst (λ b. CodeFinished c.in_ok-hidden_code.hidden_code c.args.code.now c.args.line.now.steps b (g.O.Sink.taken c.args.out.now) (g.O.Sink.taken c.run_code.new.out)
    (g.L.Sink.taken c.args.log.now) (g.L.Sink.taken c.run_code.new.log) c.in_ok-ended.ended) c.tells_events-events.ensures c.in_ok-ended.ensures.ok) in
    err_behind prelude a c.args.bytes.now (code_read a (code_of prelude) c.args.code.now) c.in_ok-ended.ended done.outcome done.work
    (code_says prelude a c.args.bytes.now c.args.code.now ready is c.requires.reads c.in_ok-ended.ended _ _ _ _ done) _ _ _ _
    (code_taken prelude a c.args.bytes.now c.args.code.now ready is c.requires.reads c.in_ok-ended.ended _ _ _ _ done) _ _ _ _
    c.in_ok-write_totals.ensures.ok c.write_last.result c.write_last.ensures.err
