use Rattle.std.proofs.Common.{rules, ◌≡◌, ◌∙◌, ◌≤◌, Err, IfErr, IfOk, ap, sym, subst}
use Rattle.pt_tree.specs.StatementFold.{script_of}
use Rattle.pt_cover.specs.HasTaken.{counts_of}
use Rattle.pt_cover.proofs.FixedLemmas.{rose, same-most, same-name, went-on}
use Rattle.pt_cover.proofs.TakenLemmas.{Taken}
use Rattle.pt_reported.specs.Reported.{lines_of, names_of}
use Rattle.pt_base.specs.Faults.{Rose}
use Rattle.pt_sinks.specs.declared.writing.Out.TheVariants as stream
use Rattle.pt_sinks.specs.declared.writing.WriteErr.TheVariants as error
use Rattle.pt_prog.specs.RunEnds.{unless_failed}
use Rattle.pt_words.specs.Asked.{asked}
use Rattle.pt_prog.specs.Answer.{BrokeOffOver, WroteAllOver}
use Rattle.pt_prog.proofs.ReportLemmas.{all_of_it, failed_so, reports_run, some_of_it}
use Rattle.pt_prog.proofs.reporting.run_reported.Goals as goal

pub returns-clause-ok : goal.returns-clause-ok
returns-clause-ok g c =
    let s = c.over-counting.result in let n = c.run_plainly-answer.new.log in
    let counts : s.report ≡ counts_of c.args.kind (lines_of (script_of c.args.script.now)) (names_of (script_of c.args.script.now)) = search rules in
    let same = c.run_plainly-answer.ensures.most.1 in
    let name : c.into_log-log.result.ghost_name ≡ c.over-arg-1.given =
    c.into_log-log.ensures.same_log ∙ same-name s.log.log.ghost_name n.log.log.ghost_name (g.L.Sink.faults s.log.log.now) (g.L.Sink.faults n.log.log.now)
    (g.L.Sink.most s.log.log.now) (g.L.Sink.most n.log.log.now) same ∙ c.over-counting.ensures.same_log in
    let final : c.log-1.given.0 ≡ n.log.log.now = c.log-1.given.1 (sym name) ∙ c.into_log-log.ensures.log in
    rw (c.unless_failed.ensures, c.failed-failed.ensures) (subst (λ x. IfOk (unless_failed n.log.failed c.run_plainly-answer.result)
    (WroteAllOver (g.O.Sink.taken c.args.out.now) (g.O.Sink.taken c.run_plainly-answer.new.out) (g.L.Sink.taken c.args.log.now)
    (g.L.Sink.taken x) (script_of c.args.prelude.now) (asked c.args.line.now) c.args.text.now)) (sym final)
    (all_of_it (script_of c.args.prelude.now) (asked c.args.line.now) c.args.text.now (script_of c.args.script.now)
    (record { is_script = c.requires.is_script; is_built = c.requires.is_built }) c.args.kind c.requires.reports
    s.report s.is_over s.events s.totals s.log.failed (g.L.Sink.taken s.log.log.now) (g.L.Sink.taken c.args.log.now)
    counts c.over-counting.ensures.over c.over-counting.ensures.events c.over-counting.ensures.totals c.over-counting.ensures.failed
    (ap g.L.Sink.taken c.over-counting.ensures.log) n.report n.is_over n.events n.totals n.log.failed (g.O.Sink.taken c.args.out.now)
    (g.O.Sink.taken c.run_plainly-answer.new.out) (g.L.Sink.taken n.log.log.now)
    c.run_plainly-answer.result (reports_run c.args.line.now.command c.args.kind c.requires.reports)
    (subst (λ q. IfOk c.run_plainly-answer.result (WroteAllOver (g.O.Sink.taken c.args.out.now) (g.O.Sink.taken c.run_plainly-answer.new.out)
    (Taken s.report s.is_over s.events s.totals s.log.failed (g.L.Sink.taken s.log.log.now))
    (Taken n.report n.is_over n.events n.totals n.log.failed (g.L.Sink.taken n.log.log.now)) (script_of c.args.prelude.now) q c.args.text.now))
    c.all_told-told.ensures c.run_plainly-answer.ensures.ok)))

pub returns-clause-err : goal.returns-clause-err
returns-clause-err g c =
    let s = c.over-counting.result in let n = c.run_plainly-answer.new.log in
    let counts : s.report ≡ counts_of c.args.kind (lines_of (script_of c.args.script.now)) (names_of (script_of c.args.script.now)) = search rules in
    let same = c.run_plainly-answer.ensures.most.1 in
    let name : c.into_log-log.result.ghost_name ≡ c.over-arg-1.given =
    c.into_log-log.ensures.same_log ∙ same-name s.log.log.ghost_name n.log.log.ghost_name (g.L.Sink.faults s.log.log.now) (g.L.Sink.faults n.log.log.now)
    (g.L.Sink.most s.log.log.now) (g.L.Sink.most n.log.log.now) same ∙ c.over-counting.ensures.same_log in
    let final : c.log-1.given.0 ≡ n.log.log.now = c.log-1.given.1 (sym name) ∙ c.into_log-log.ensures.log in
    rw (c.unless_failed.ensures, c.failed-failed.ensures) (subst (λ x. IfErr (unless_failed n.log.failed c.run_plainly-answer.result)
    (BrokeOffOver (g.O.Sink.taken c.args.out.now) (g.O.Sink.taken c.run_plainly-answer.new.out) (g.L.Sink.taken c.args.log.now)
    (g.L.Sink.taken x) (script_of c.args.prelude.now) (asked c.args.line.now) c.args.text.now)) (sym final)
    (some_of_it (script_of c.args.prelude.now) (asked c.args.line.now) c.args.text.now (script_of c.args.script.now)
    (record { is_script = c.requires.is_script; is_built = c.requires.is_built }) c.args.kind c.requires.reports
    s.report s.is_over s.events s.totals s.log.failed (g.L.Sink.taken s.log.log.now) (g.L.Sink.taken c.args.log.now)
    counts c.over-counting.ensures.over c.over-counting.ensures.events c.over-counting.ensures.totals c.over-counting.ensures.failed
    (ap g.L.Sink.taken c.over-counting.ensures.log) n.report n.is_over n.events n.totals n.log.failed (g.O.Sink.taken c.args.out.now)
    (g.O.Sink.taken c.run_plainly-answer.new.out) (g.L.Sink.taken n.log.log.now)
    c.run_plainly-answer.result
    (subst (λ q. IfOk c.run_plainly-answer.result (WroteAllOver (g.O.Sink.taken c.args.out.now) (g.O.Sink.taken c.run_plainly-answer.new.out)
    (Taken s.report s.is_over s.events s.totals s.log.failed (g.L.Sink.taken s.log.log.now))
    (Taken n.report n.is_over n.events n.totals n.log.failed (g.L.Sink.taken n.log.log.now)) (script_of c.args.prelude.now) q c.args.text.now))
    c.all_told-told.ensures c.run_plainly-answer.ensures.ok)
    (subst (λ q. IfErr c.run_plainly-answer.result (BrokeOffOver (g.O.Sink.taken c.args.out.now) (g.O.Sink.taken c.run_plainly-answer.new.out)
    (Taken s.report s.is_over s.events s.totals s.log.failed (g.L.Sink.taken s.log.log.now))
    (Taken n.report n.is_over n.events n.totals n.log.failed (g.L.Sink.taken n.log.log.now)) (script_of c.args.prelude.now) q c.args.text.now))
    c.all_told-told.ensures c.run_plainly-answer.ensures.err)))

pub returns-clause-log_failed : goal.returns-clause-log_failed
returns-clause-log_failed g c e =
    let s = c.over-counting.result in let n = c.run_plainly-answer.new.log in
    let same = c.run_plainly-answer.ensures.most.1 in
    let name : c.into_log-log.result.ghost_name ≡ c.over-arg-1.given =
    c.into_log-log.ensures.same_log ∙ same-name s.log.log.ghost_name n.log.log.ghost_name (g.L.Sink.faults s.log.log.now) (g.L.Sink.faults n.log.log.now)
    (g.L.Sink.most s.log.log.now) (g.L.Sink.most n.log.log.now) same ∙ c.over-counting.ensures.same_log in
    let final : c.log-1.given.0 ≡ n.log.log.now = c.log-1.given.1 (sym name) ∙ c.into_log-log.ensures.log in
    let so : c.run_plainly-answer.result ≡ Err (error.Failed stream.Log) =
    failed_so c.failed-failed.result c.run_plainly-answer.result stream.Log (sym c.unless_failed.ensures ∙ e) in
    let had = rose s.log.log.ghost_name n.log.log.ghost_name (g.L.Sink.faults s.log.log.now) (g.L.Sink.faults n.log.log.now)
    (g.L.Sink.most s.log.log.now) (g.L.Sink.most n.log.log.now) same (c.run_plainly-answer.ensures.log_failed so).0 in
    subst (λ x. Rose (g.L.Sink.faults c.args.log.now) (g.L.Sink.faults x) × (g.L.Sink.faults x ≤ g.L.Sink.most x)) (sym final)
    (subst (λ y. Rose (g.L.Sink.faults y) (g.L.Sink.faults n.log.log.now) × (g.L.Sink.faults n.log.log.now ≤ g.L.Sink.most n.log.log.now))
    c.over-counting.ensures.log had)

pub returns-clause-most : goal.returns-clause-most
returns-clause-most g c =
    let s = c.over-counting.result in let n = c.run_plainly-answer.new.log in
    let same = c.run_plainly-answer.ensures.most.1 in
    let name : c.into_log-log.result.ghost_name ≡ c.over-arg-1.given =
    c.into_log-log.ensures.same_log ∙ same-name s.log.log.ghost_name n.log.log.ghost_name (g.L.Sink.faults s.log.log.now) (g.L.Sink.faults n.log.log.now)
    (g.L.Sink.most s.log.log.now) (g.L.Sink.most n.log.log.now) same ∙ c.over-counting.ensures.same_log in
    let final : c.log-1.given.0 ≡ n.log.log.now = c.log-1.given.1 (sym name) ∙ c.into_log-log.ensures.log in (
      c.run_plainly-answer.ensures.most.0,
      ap g.L.Sink.most final ∙ same-most s.log.log.ghost_name n.log.log.ghost_name (g.L.Sink.faults s.log.log.now) (g.L.Sink.faults n.log.log.now)
          (g.L.Sink.most s.log.log.now) (g.L.Sink.most n.log.log.now) same ∙ ap g.L.Sink.most c.over-counting.ensures.log,
    )

pub returns-clause-later : goal.returns-clause-later
returns-clause-later g c =
    let s = c.over-counting.result in let n = c.run_plainly-answer.new.log in
    let same = c.run_plainly-answer.ensures.most.1 in
    let name : c.into_log-log.result.ghost_name ≡ c.over-arg-1.given =
    c.into_log-log.ensures.same_log ∙ same-name s.log.log.ghost_name n.log.log.ghost_name (g.L.Sink.faults s.log.log.now) (g.L.Sink.faults n.log.log.now)
    (g.L.Sink.most s.log.log.now) (g.L.Sink.most n.log.log.now) same ∙ c.over-counting.ensures.same_log in
    let final : c.log-1.given.0 ≡ n.log.log.now = c.log-1.given.1 (sym name) ∙ c.into_log-log.ensures.log in (
      c.run_plainly-answer.ensures.later.0,
      subst (λ x. g.L.Sink.faults c.args.log.now ≤ g.L.Sink.faults x) (sym final)
          (subst (λ y. g.L.Sink.faults y ≤ g.L.Sink.faults n.log.log.now) c.over-counting.ensures.log
          (went-on s.log.log.ghost_name n.log.log.ghost_name (g.L.Sink.faults s.log.log.now) (g.L.Sink.faults n.log.log.now)
          (g.L.Sink.most s.log.log.now) (g.L.Sink.most n.log.log.now) same c.run_plainly-answer.ensures.later.1)),
    )
