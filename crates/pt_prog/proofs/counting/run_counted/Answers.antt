use Rattle.std.proofs.Common.{rules, ◌≡◌, ◌∙◌, ◌≤◌, Err, IfErr, IfOk, ap, sym, subst, true}
use Rattle.pt_base.specs.Faults.{Rose}
use Rattle.pt_tree.specs.StatementFold.{script_of}
use Rattle.pt_run_script.specs.ScriptRun.{ScriptBrokeOff}
use Rattle.pt_sinks.specs.declared.writing.Out.TheVariants as stream
use Rattle.pt_sinks.specs.declared.writing.WriteErr.TheVariants as error
use Rattle.pt_generated.proofs.LineLemmas.{rose, same-events, same-most, same-name, went-on}
use Rattle.pt_prog.specs.Counted.{HasCounted, with_lines}
use Rattle.pt_prog.proofs.CountedLemmas.{all-counted, failed-uncounted, some-counted}
use Rattle.pt_prog.proofs.counting.run_counted.Goals as goal

pub returns-clause-ok : goal.returns-clause-ok
returns-clause-ok g c =
    let s = c.over-counting.result in let n = c.run_script-ran.new.log in
    let same = c.run_script-ran.ensures.most.1 in
    let name : c.into_log-log.result.ghost_name ≡ c.over-arg-1.given =
    c.into_log-log.ensures.same_log ∙ same-name s.events n.events s.log.ghost_name n.log.ghost_name (g.L.Sink.faults s.log.now) (g.L.Sink.faults n.log.now)
    (g.L.Sink.most s.log.now) (g.L.Sink.most n.log.now) same ∙ c.over-counting.ensures.same_log in
    let final : c.log-1.given.0 ≡ n.log.now = c.log-1.given.1 (sym name) ∙ c.into_log-log.ensures.log in
    let told = same-events s.events n.events s.log.ghost_name n.log.ghost_name (g.L.Sink.faults s.log.now) (g.L.Sink.faults n.log.now)
    (g.L.Sink.most s.log.now) (g.L.Sink.most n.log.now) same in
    rw (c.with_lines.ensures, c.lines-lines.ensures) (subst (λ x. IfOk (with_lines n.lines c.run_script-ran.result)
    (HasCounted (script_of c.args.prelude.now) (script_of c.args.script.now) c.args.bound c.args.events (g.O.Sink.taken c.args.out.now)
    (g.O.Sink.taken c.run_script-ran.new.out) (g.L.Sink.taken c.args.log.now) (g.L.Sink.taken x))) (sym final)
    (subst (λ b. IfOk (with_lines n.lines c.run_script-ran.result)
    (HasCounted (script_of c.args.prelude.now) (script_of c.args.script.now) c.args.bound b (g.O.Sink.taken c.args.out.now)
    (g.O.Sink.taken c.run_script-ran.new.out) (g.L.Sink.taken c.args.log.now) (g.L.Sink.taken n.log.now))) (told ∙ c.over-counting.ensures.events)
    (all-counted s.lines n.lines s.events n.events (g.O.Sink.taken c.args.out.now) (g.O.Sink.taken c.run_script-ran.new.out)
    (g.L.Sink.taken s.log.now) (g.L.Sink.taken c.args.log.now) (g.L.Sink.taken n.log.now) c.over-counting.ensures.lines told
    (ap g.L.Sink.taken c.over-counting.ensures.log) (script_of c.args.prelude.now) (script_of c.args.script.now) c.args.bound c.run_script-ran.result
    c.run_script-ran.ensures.ok)))

pub returns-clause-err : goal.returns-clause-err
returns-clause-err g c =
    let s = c.over-counting.result in let n = c.run_script-ran.new.log in
    let same = c.run_script-ran.ensures.most.1 in
    let name : c.into_log-log.result.ghost_name ≡ c.over-arg-1.given =
    c.into_log-log.ensures.same_log ∙ same-name s.events n.events s.log.ghost_name n.log.ghost_name (g.L.Sink.faults s.log.now) (g.L.Sink.faults n.log.now)
    (g.L.Sink.most s.log.now) (g.L.Sink.most n.log.now) same ∙ c.over-counting.ensures.same_log in
    let final : c.log-1.given.0 ≡ n.log.now = c.log-1.given.1 (sym name) ∙ c.into_log-log.ensures.log in
    let told = same-events s.events n.events s.log.ghost_name n.log.ghost_name (g.L.Sink.faults s.log.now) (g.L.Sink.faults n.log.now)
    (g.L.Sink.most s.log.now) (g.L.Sink.most n.log.now) same in
    rw (c.with_lines.ensures, c.lines-lines.ensures) (subst (λ x. IfErr (with_lines n.lines c.run_script-ran.result)
    (ScriptBrokeOff (script_of c.args.prelude.now) (script_of c.args.script.now) c.args.bound c.args.events (g.O.Sink.taken c.args.out.now)
    (g.O.Sink.taken c.run_script-ran.new.out) (g.L.Sink.taken c.args.log.now) (g.L.Sink.taken x))) (sym final)
    (subst (λ b. IfErr (with_lines n.lines c.run_script-ran.result)
    (ScriptBrokeOff (script_of c.args.prelude.now) (script_of c.args.script.now) c.args.bound b (g.O.Sink.taken c.args.out.now)
    (g.O.Sink.taken c.run_script-ran.new.out) (g.L.Sink.taken c.args.log.now) (g.L.Sink.taken n.log.now))) (told ∙ c.over-counting.ensures.events)
    (some-counted s.lines n.lines s.events n.events (g.O.Sink.taken c.args.out.now) (g.O.Sink.taken c.run_script-ran.new.out)
    (g.L.Sink.taken s.log.now) (g.L.Sink.taken c.args.log.now) (g.L.Sink.taken n.log.now) c.over-counting.ensures.lines told
    (ap g.L.Sink.taken c.over-counting.ensures.log) (script_of c.args.prelude.now) (script_of c.args.script.now) c.args.bound c.run_script-ran.result
    (λ f. told ∙ (rose s.events n.events s.log.ghost_name n.log.ghost_name (g.L.Sink.faults s.log.now) (g.L.Sink.faults n.log.now)
    (g.L.Sink.most s.log.now) (g.L.Sink.most n.log.now) same (c.run_script-ran.ensures.log_failed f).0).0) c.run_script-ran.ensures.err)))

pub returns-clause-log_failed : goal.returns-clause-log_failed
returns-clause-log_failed g c e =
    let s = c.over-counting.result in let n = c.run_script-ran.new.log in
    let same = c.run_script-ran.ensures.most.1 in
    let name : c.into_log-log.result.ghost_name ≡ c.over-arg-1.given =
    c.into_log-log.ensures.same_log ∙ same-name s.events n.events s.log.ghost_name n.log.ghost_name (g.L.Sink.faults s.log.now) (g.L.Sink.faults n.log.now)
    (g.L.Sink.most s.log.now) (g.L.Sink.most n.log.now) same ∙ c.over-counting.ensures.same_log in
    let final : c.log-1.given.0 ≡ n.log.now = c.log-1.given.1 (sym name) ∙ c.into_log-log.ensures.log in
    let so : c.run_script-ran.result ≡ Err (error.Failed stream.Log) =
    failed-uncounted c.lines-lines.result c.run_script-ran.result stream.Log (sym c.with_lines.ensures ∙ e) in
    let had = (rose s.events n.events s.log.ghost_name n.log.ghost_name (g.L.Sink.faults s.log.now) (g.L.Sink.faults n.log.now)
    (g.L.Sink.most s.log.now) (g.L.Sink.most n.log.now) same (c.run_script-ran.ensures.log_failed so).0).1 in
    subst (λ x. Rose (g.L.Sink.faults c.args.log.now) (g.L.Sink.faults x) × (g.L.Sink.faults x ≤ g.L.Sink.most x)) (sym final)
    (subst (λ y. Rose (g.L.Sink.faults y) (g.L.Sink.faults n.log.now) × (g.L.Sink.faults n.log.now ≤ g.L.Sink.most n.log.now))
    c.over-counting.ensures.log had)

pub returns-clause-out_failed : goal.returns-clause-out_failed
returns-clause-out_failed g c e =
    c.run_script-ran.ensures.out_failed (failed-uncounted c.lines-lines.result c.run_script-ran.result stream.Out (sym c.with_lines.ensures ∙ e))

pub returns-clause-most : goal.returns-clause-most
returns-clause-most g c =
    let s = c.over-counting.result in let n = c.run_script-ran.new.log in
    let same = c.run_script-ran.ensures.most.1 in
    let name : c.into_log-log.result.ghost_name ≡ c.over-arg-1.given =
    c.into_log-log.ensures.same_log ∙ same-name s.events n.events s.log.ghost_name n.log.ghost_name (g.L.Sink.faults s.log.now) (g.L.Sink.faults n.log.now)
    (g.L.Sink.most s.log.now) (g.L.Sink.most n.log.now) same ∙ c.over-counting.ensures.same_log in
    let final : c.log-1.given.0 ≡ n.log.now = c.log-1.given.1 (sym name) ∙ c.into_log-log.ensures.log in (
      c.run_script-ran.ensures.most.0,
      ap g.L.Sink.most final ∙ same-most s.events n.events s.log.ghost_name n.log.ghost_name (g.L.Sink.faults s.log.now) (g.L.Sink.faults n.log.now)
          (g.L.Sink.most s.log.now) (g.L.Sink.most n.log.now) same ∙ ap g.L.Sink.most c.over-counting.ensures.log,
    )

pub returns-clause-later : goal.returns-clause-later
returns-clause-later g c =
    let s = c.over-counting.result in let n = c.run_script-ran.new.log in
    let same = c.run_script-ran.ensures.most.1 in
    let name : c.into_log-log.result.ghost_name ≡ c.over-arg-1.given =
    c.into_log-log.ensures.same_log ∙ same-name s.events n.events s.log.ghost_name n.log.ghost_name (g.L.Sink.faults s.log.now) (g.L.Sink.faults n.log.now)
    (g.L.Sink.most s.log.now) (g.L.Sink.most n.log.now) same ∙ c.over-counting.ensures.same_log in
    let final : c.log-1.given.0 ≡ n.log.now = c.log-1.given.1 (sym name) ∙ c.into_log-log.ensures.log in (
      c.run_script-ran.ensures.later.0,
      subst (λ x. g.L.Sink.faults c.args.log.now ≤ g.L.Sink.faults x) (sym final)
          (subst (λ y. g.L.Sink.faults y ≤ g.L.Sink.faults n.log.now) c.over-counting.ensures.log
          (went-on s.events n.events s.log.ghost_name n.log.ghost_name (g.L.Sink.faults s.log.now) (g.L.Sink.faults n.log.now)
          (g.L.Sink.most s.log.now) (g.L.Sink.most n.log.now) same c.run_script-ran.ensures.later.1)),
    )
