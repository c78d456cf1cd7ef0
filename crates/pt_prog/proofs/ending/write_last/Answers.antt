-- Where a run ends by no exception, the log gets the final text of the end.
use Rattle.std.proofs.Common.{◌≡◌, ◌∙◌, ℕ, List, Option, Result, Ok, Err, refl, sym, ap, subst}
use Rattle.std.specs.Prelude.{IfOk}
use Rattle.std.specs.Option.{option_map}
use Rattle.sem_run.specs.run.Run.{Write}
use Rattle.pt_run_script.specs.pt_run_code.pt_runner.declared.ending.RunEnd.{RunEnd}
use Rattle.pt_sinks.specs.Writing.{Took}
use Rattle.pt_prog.specs.declared.end.End.{End}
use Rattle.pt_prog.specs.LogText.{Text, final}
use Rattle.pt_prog.specs.RunEnds.{end_of_run, last_of_run}
use Rattle.pt_prog.proofs.ending.write_last.Goals as goal
use Rattle.pt_prog.proofs.ending.write_last.Goals.{in-Done, in-Spent, in-Outside}

-- the end that was written is that of the run, whose last write is its final text
written_last : {E : Type 0} (r : Result End E) (took : List Write → Type 0) (file : Text) (source : Option Text) (n : ℕ) (e : RunEnd) (x : End)
    → x ≡ end_of_run n e → last_of_run file source n e ≡ final (end_of_run n e) → IfOk r (λ y. (y ≡ x) × took (final x))
    → IfOk r (λ y. (y ≡ end_of_run n e) × took (last_of_run file source n e))
written_last (Ok y) took file source n e x same last p = (p.0 ∙ same, subst took (ap final same ∙ sym last) p.1)
written_last (Err f) took file source n e x same last p = tt

pub returns-clause-ok : goal.returns-clause-ok
returns-clause-ok g c =
    let took : List Write → Type 0
    = Took (g.O.Sink.taken c.args.out.now) (g.O.Sink.taken c.write_final.new.out) (g.L.Sink.taken c.args.log.now) (g.L.Sink.taken c.write_final.new.log) in
    let source : Option Text = option_map (λ s. s.now) c.args.source in
    let n : ℕ = c.args.bound in
    let is_final : RunEnd → Type 0 = λ e. last_of_run c.args.file.now source n e ≡ final (end_of_run n e) in
    elim c.match-end.branch [
      | in-Done w ↦
          written_last c.write_final.result took c.args.file.now source n c.args.end.now c.match-end.end (w.end-is ∙ sym (ap (end_of_run n) w.in-Done.is))
          (subst is_final (sym w.in-Done.is) refl) c.write_final.ensures.ok
      | in-Spent w ↦
          written_last c.write_final.result took c.args.file.now source n c.args.end.now c.match-end.end (w.end-is ∙ sym (ap (end_of_run n) w.in-Spent.is))
          (subst is_final (sym w.in-Spent.is) refl) c.write_final.ensures.ok
      | in-Outside w ↦
          written_last c.write_final.result took c.args.file.now source n c.args.end.now c.match-end.end (w.end-is ∙ sym (ap (end_of_run n) w.in-Outside.is))
          (subst is_final (sym w.in-Outside.is) refl) c.write_final.ensures.ok
    ]
