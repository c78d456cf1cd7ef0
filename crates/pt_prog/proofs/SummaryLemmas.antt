-- The run of a script that is summed up: what is written behind it, and its answer.
use Rattle.std.proofs.Common.{◌≡◌, ◌∙◌, ℕ, Bool, true, false, List, ◌++◌, Option, Some, None, Result, Ok, Err, IfOk, IfErr, refl, sym, ap, subst, append_assoc}
use Rattle.std.proofs.lemmas.Bool.{true≢false}
use Rattle.pt_base.specs.Taken.{Pieces}
use Rattle.pt_tree.specs.Syntax.{Stms}
use Rattle.sem_run.specs.run.Run.{Write}
use Rattle.pt_machine_state.specs.Writing.{kept}
use Rattle.std.specs.Prelude.{IsErr, IsErrAnd}
use Rattle.pt_run_script.proofs.pt_run_code.pt_runner.AdvanceLemmas.{if_err}
use Rattle.pt_sinks.specs.Writing.{Took, TookFront}
use Rattle.pt_sinks.specs.declared.writing.WriteErr.{WriteErr}
use Rattle.pt_sinks.proofs.WritingLemmas.{front_before, front_behind, took_behind}
use Rattle.pt_run_script.specs.pt_run_code.pt_runner.Ends.{block_name}
use Rattle.pt_run_script.specs.ScriptRun.{ScriptBrokeOff}
use Rattle.pt_host.specs.World.{Program}
use Rattle.pt_cover.specs.declared.kind.ReportKind.{ReportKind}
use Rattle.pt_words.specs.Words.{Asked}
use Rattle.pt_words.specs.declared.line.Command.{Command}
use Rattle.pt_words.specs.declared.line.Command.TheVariants as command
use Rattle.pt_prog.specs.declared.counting.Counted.{Counted}
use Rattle.pt_prog.specs.declared.end.End.{End}
use Rattle.pt_prog.specs.LogText.{Text, summary}
use Rattle.pt_prog.specs.RunEnds.{end_of_run}
use Rattle.pt_prog.specs.Counted.{HasCounted, counted_writes, ended_writes}
use Rattle.pt_prog.specs.Answer.{BrokeOffOver, IsAnswerOver, IsBuilt, WroteAllOver, WroteFrontOver, end_of, is_run, lines_in, of_answer, of_run, ran, report_kind, run_writes, script_read, script_writes, sums_up, tells_events, with_summary}
use Rattle.pt_prog.proofs.RunLemmas.{RunTaken, all_are_written, broke, same_end}

-- one list of writes behind another
module _ (out_old out_mid out_new log_old log_mid log_new : Pieces → Pieces → Type 0) (ws vs : List Write)
    (t : Took out_old out_mid log_old log_mid ws) where
  pub ok_after : {X : Type 0} (P : X → Type 0) (r : Result X WriteErr) → IfOk r (λ x. P x × Took out_mid out_new log_mid log_new vs)
      → IfOk r (λ x. P x × Took out_old out_new log_old log_new (ws ++ vs))
  ok_after P (Ok x) p = (p.0, took_behind out_old out_mid out_new log_old log_mid log_new ws vs t p.1)
  ok_after P (Err why) p = tt

  pub err_after : {X : Type 0} (r : Result X WriteErr) → IfErr r (λ why. TookFront out_mid out_new log_mid log_new why vs)
      → IfErr r (λ why. TookFront out_old out_new log_old log_new why (ws ++ vs))
  err_after (Ok x) f = tt
  err_after (Err why) f = front_behind out_old out_mid out_new log_old log_mid log_new why ws vs t f

-- the first of them failed
module _ (out_old out_new log_old log_new : Pieces → Pieces → Type 0) (ws vs : List Write) where
  pub err_before : {X : Type 0} (r : Result X WriteErr) (e : WriteErr) → IsErr r × IsErrAnd r (λ f. f ≡ e) → TookFront out_old out_new log_old log_new e ws
      → IfErr r (λ why. TookFront out_old out_new log_old log_new why (ws ++ vs))
  err_before r e from f =
      if_err (λ why. TookFront out_old out_new log_old log_new why (ws ++ vs)) r e from (front_before out_old out_new log_old log_new e ws vs f)

-- what is summed up is a run without a report
pub sums_run : (c : Command) → sums_up c ≡ true → (is_run c ≡ true) × (report_kind c ≡ None)
sums_run command.Run s = absurd (true≢false (sym s))
sums_run command.Trace s = absurd (true≢false (sym s))
sums_run command.Dis s = absurd (true≢false (sym s))
sums_run command.Build s = absurd (true≢false (sym s))
sums_run command.Exec s = absurd (true≢false (sym s))
sums_run command.Cover s = absurd (true≢false (sym s))
sums_run command.Profile s = absurd (true≢false (sym s))
sums_run (command.Gen count) s = (refl, refl)

module _ (prelude : Stms) (a : Asked) (text : Text) (ss : Stms) (is : IsBuilt text ss) (sums : sums_up a.command ≡ true)
    (out_old out_ran log_old log_ran : Pieces → Pieces → Type 0) where
  abbrev p : Program
  p = script_read a text prelude ss

  -- it came to its outcome
  module _ (x : Counted) (f : HasCounted prelude ss a.steps (tells_events a) out_old out_ran log_old log_ran x) where
    abbrev written : List Write
    written = kept (tells_events a) f.finished.outcome.written

    abbrev all_written : List Write
    all_written = written ++ counted_writes a text x

    run_taken : RunTaken a p x.ended f.finished.outcome f.finished.work out_old out_ran log_old log_ran
    run_taken =
        let r = f.finished in record { units = r.units; instructions = r.instructions; depth = r.depth; ends = r.ends; took = r.took }

    ends_so : end_of_run a.steps x.ended.end ≡ end_of a.steps f.finished.outcome.ending
    ends_so = same_end (block_name p) a.steps x.ended.end f.finished.outcome.ending f.finished.ends

    same_summary : summary (end_of_run a.steps x.ended.end) x.ended.totals.acts x.lines
        ≡ summary (end_of a.steps f.finished.outcome.ending) f.finished.outcome.units (lines_in f.finished.outcome)
    same_summary = λ i. summary (ends_so i) (sym f.finished.units i) (f.counts i)

    are_all : all_written ≡ with_summary (sums_up a.command) a.steps f.finished.outcome
        (script_writes (report_kind a.command) a text prelude ss f.finished.outcome f.finished.work)
    are_all =
        sym (append_assoc written (ended_writes a text x.ended) (summary (end_of_run a.steps x.ended.end) x.ended.totals.acts x.lines))
        ∙ (λ i. all_are_written a p x.ended f.finished.outcome f.finished.work out_old out_ran log_old log_ran run_taken i ++ same_summary i)
        ∙ (λ i. with_summary (sym sums i) a.steps f.finished.outcome
        (script_writes (sym (sums_run a.command sums).1 i) a text prelude ss f.finished.outcome f.finished.work))

    answer : IsAnswerOver prelude a text (end_of_run a.steps x.ended.end) all_written
    answer =
        ran ss f.finished.outcome f.finished.work (sums_run a.command sums).0 is f.finished.runs f.finished.code_runs ends_so are_all

    module _ (out_new log_new : Pieces → Pieces → Type 0) where
      pub ok_summed : (r : Result End WriteErr)
          → IfOk r (λ e. (e ≡ end_of_run a.steps x.ended.end) × Took out_ran out_new log_ran log_new (counted_writes a text x))
          → IfOk r (WroteAllOver out_old out_new log_old log_new prelude a text)
      ok_summed (Ok e) t = record {
        writes = all_written;
        is_answer = subst (λ z. IsAnswerOver prelude a text z all_written) (sym t.0) answer;
        took = took_behind out_old out_ran out_new log_old log_ran log_new written (counted_writes a text x) f.finished.took t.1;
      }
      ok_summed (Err why) t = tt

      pub err_summed : (r : Result End WriteErr) → IfErr r (λ why. TookFront out_ran out_new log_ran log_new why (counted_writes a text x))
          → IfErr r (BrokeOffOver out_old out_new log_old log_new prelude a text)
      err_summed (Ok e) t = tt
      err_summed (Err why) t =
          broke prelude a text out_old out_new log_old log_new why (of_answer (end_of_run a.steps x.ended.end) all_written answer
          (front_behind out_old out_ran out_new log_old log_ran log_new why written (counted_writes a text x) f.finished.took t))

  -- it was broken off
  pub front_summed : (why : WriteErr) → ScriptBrokeOff prelude ss a.steps (tells_events a) out_old out_ran log_old log_ran why
      → WroteFrontOver out_old out_ran log_old log_ran prelude why a text
  front_summed why b = of_run ss b.written (sums_run a.command sums).0 (sums_run a.command sums).1 is b.first b.took
