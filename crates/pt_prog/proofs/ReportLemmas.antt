-- The run of a script with a report: a plain run with all its events and totals, whose log is one that counts.
use Rattle.std.proofs.Common.{◌≡◌, ◌∙◌, Bool, true, false, List, [], ◌∷◌, ◌++◌, map, Option, Some, None, Result, Ok, Err, IfOk, IfErr, inl, inr, refl, sym, ap, subst, append-nil}
use Rattle.std.proofs.lemmas.Bool.{true≢false}
use Rattle.pt_base.specs.Taken.{Pieces, Takes}
use Rattle.pt_base.specs.Taken as one
use Rattle.pt_base.specs.declared.sink.SinkErr.{SinkErr}
use Rattle.pt_tree.specs.Syntax.{Stms}
use Rattle.pt_heap.specs.declared.value.Value.{Value}
use Rattle.pt_host.specs.World.{World}
use Rattle.sem_run.specs.run.Run.{Write, write, to_log, to_out}
use Rattle.pt_bare_runs.specs.Strides.{Outcome}
use Rattle.pt_machine_state.specs.Writing.{kept}
use Rattle.pt_sinks.specs.Writing.{Took, TookFront, first, logs, outs}
use Rattle.pt_sinks.specs.declared.writing.Out.{Out}
use Rattle.pt_sinks.specs.declared.writing.WriteErr.{WriteErr}
use Rattle.pt_sinks.specs.declared.writing.WriteErr.TheVariants as error
use Rattle.pt_run_script.specs.pt_run_code.pt_runner.Work.{Work}
use Rattle.pt_run_script.specs.ScriptRun.{CodeRunsBy, RunsTo, ScriptWritesFirst}
use Rattle.pt_front.proofs.Once.{one_script, never_both}
use Rattle.pt_cover.specs.declared.counts.Counts.{Counts}
use Rattle.pt_cover.specs.declared.kind.ReportKind.{ReportKind}
use Rattle.pt_cover.specs.HasTaken.{counts_of}
use Rattle.pt_cover.specs.Reports.{logged}
use Rattle.pt_cover.proofs.SinceLemmas.{at_end, at_end_whole, at_start, counts-start, nothing-logged, start}
use Rattle.pt_cover.proofs.TakenLemmas.{Taken}
use Rattle.pt_cover.proofs.PassedLemmas.{front-mapped}
use Rattle.pt_reported.specs.Reported.{lines_of, names_of}
use Rattle.pt_words.specs.Words.{Asked}
use Rattle.pt_words.specs.declared.line.Command.{Command}
use Rattle.pt_words.specs.declared.line.Command.TheVariants as command
use Rattle.pt_prog.specs.declared.end.End.{End}
use Rattle.pt_prog.specs.LogText.{Text}
use Rattle.pt_prog.specs.RunEnds.{unless_failed}
use Rattle.pt_prog.specs.Answer.{BrokeOffOver, IsAnswerOver, IsBuilt, ReportedFront, WritesFirst, WroteAllOver, WroteFrontOver, all_told, all_writes, end_of, is_run, of_all, of_answer, of_code, of_code_run, of_front, of_reported_run, of_run, ran, refused, report_kind, report_on, reported, script_read, script_writes, sums_up, unbuilt, with_summary, wrote_code}
use Rattle.pt_prog.proofs.EndLaws.{not_both, outs_reported}
use Rattle.pt_sinks.proofs.WritingLemmas.{front_of_all, logs_append}

-- what is reported is a run
pub reports_run : (c : Command) (k : ReportKind) → report_kind c ≡ Some k → is_run c ≡ true
reports_run command.Run k r = absurd (let no : None ≡ Some k = r in cc)
reports_run command.Trace k r = absurd (let no : None ≡ Some k = r in cc)
reports_run command.Dis k r = absurd (let no : None ≡ Some k = r in cc)
reports_run command.Build k r = absurd (let no : None ≡ Some k = r in cc)
reports_run command.Exec k r = absurd (let no : None ≡ Some k = r in cc)
reports_run command.Cover k r = refl
reports_run command.Profile k r = refl
reports_run (command.Gen count) k r = absurd (let no : None ≡ Some k = r in cc)

-- and has no summary
pub reports_unsummed : (c : Command) (k : ReportKind) → report_kind c ≡ Some k → sums_up c ≡ false
reports_unsummed command.Run k r = refl
reports_unsummed command.Trace k r = refl
reports_unsummed command.Dis k r = refl
reports_unsummed command.Build k r = refl
reports_unsummed command.Exec k r = refl
reports_unsummed command.Cover k r = refl
reports_unsummed command.Profile k r = refl
reports_unsummed (command.Gen count) k r = absurd (let no : None ≡ Some k = r in cc)

-- what a plain run of a script with its events and totals came to
record PlainRun (a : Asked) (text : Text) (prelude ss : Stms) (e : End) (ws : List Write) : Type 0 where
  outcome : Outcome Value World
  work : Work
  runs : RunsTo prelude ss a.steps outcome
  code_runs : CodeRunsBy prelude ss a.steps outcome work
  ends : e ≡ end_of a.steps outcome.ending
  writes : ws ≡ all_writes (script_read a text prelude ss) a.steps true true outcome work

no_run : {A : Type 0} → false ≡ true → A
no_run e = absurd (true≢false (sym e))

module _ (prelude : Stms) (a : Asked) (text : Text) (ss : Stms) (is : IsBuilt text ss) where
  plain_run : (e : End) (ws : List Write) → IsAnswerOver prelude (all_told a) text e ws → PlainRun a text prelude ss e ws
  plain_run e ws (of_code r x) = no_run r
  plain_run e ws (refused q n x i u) = absurd (never_both text ss q is.is_script x)
  plain_run e ws (unbuilt l r x i u) = absurd (not_both text l ss x is)
  plain_run e ws (ran zz o w r x to by i u) =
      let same : zz ≡ ss = one_script text zz ss x.is_script is.is_script in
      record {
        outcome = o;
        work = w;
        runs = subst (λ s. RunsTo prelude s a.steps o) same to;
        code_runs = subst (λ s. CodeRunsBy prelude s a.steps o w) same by;
        ends = i;
        writes = u ∙ ap (λ s. all_writes (script_read a text prelude s) a.steps true true o w) same;
      }
  plain_run e ws (wrote_code bs n x i u) = no_run (sym n)

  -- what it wrote first
  record PlainFront (out_old out_new log_old log_new : Pieces → Pieces → Type 0) (why : WriteErr) : Type 0 where
    writes : List Write
    first_written : WritesFirst a text prelude ss writes
    took : TookFront out_old out_new log_old log_new why writes

  plain_front : (out_old out_new log_old log_new : Pieces → Pieces → Type 0) (why : WriteErr)
      → WroteFrontOver out_old out_new log_old log_new prelude why (all_told a) text → PlainFront out_old out_new log_old log_new why
  plain_front out_old out_new log_old log_new why (of_answer e ws x t) =
      let r = plain_run e ws x in record {
        writes = all_writes (script_read a text prelude ss) a.steps true true r.outcome r.work;
        first_written = of_all r.outcome r.work r.runs r.code_runs;
        took = subst (TookFront out_old out_new log_old log_new why) r.writes t;
      }
  plain_front out_old out_new log_old log_new why (of_run zz ws r n x f t) =
      let same : zz ≡ ss = one_script text zz ss x.is_script is.is_script in record {
        writes = kept true ws;
        first_written = of_front ws (subst (λ s. ScriptWritesFirst prelude s a.steps ws) same f);
        took = t;
      }
  plain_front out_old out_new log_old log_new why (of_reported_run k zz ws r x f t) = absurd (let no : None ≡ Some k = r in cc)
  plain_front out_old out_new log_old log_new why (of_code_run c ws r ready x f t) = no_run r

  -- the log counts over another one
  module _ (k : ReportKind) (reports : report_kind a.command ≡ Some k) (c : Counts) (o e t : Bool) (f : Option SinkErr)
      (below log_old : Pieces → Pieces → Type 0) (counts : c ≡ counts_of k (lines_of ss) (names_of ss)) (over : o ≡ false) (events : e ≡ a.events)
      (totals : t ≡ a.stats) (failed : f ≡ None) (same_log : below ≡ log_old) where
    abbrev fresh : Counts
    fresh = counts_of k (lines_of ss) (names_of ss)

    begun : (g h : Pieces) → log_old g h → Taken c o e t f below (start fresh a.events a.stats log_old log_old g h) []
    begun g h took =
        subst (λ X. X) (λ i. Taken (sym counts i) (sym over i) (sym events i) (sym totals i) (sym failed i) (sym same_log i)
        (start fresh a.events a.stats log_old log_old g h) [])
        (at_start fresh a.events a.stats log_old log_old (counts-start k (lines_of ss) (names_of ss)) g h took)

    module _ (c' : Counts) (o' e' t' : Bool) (f' : Option SinkErr) (out_old out_new log_new : Pieces → Pieces → Type 0) where
      abbrev Counting : Pieces → Pieces → Type 0
      Counting = Taken c' o' e' t' f' log_new

      logs_to_log : (ps : Pieces) → logs (map (write to_log) ps) ≡ ps
      logs_to_log [] = refl
      logs_to_log (p ∷ ps) = ap (λ qs. p ∷ qs) (logs_to_log ps)

      logs_to_out : (ps : Pieces) → logs (map (write to_out) ps) ≡ []
      logs_to_out [] = refl
      logs_to_out (p ∷ ps) = logs_to_out ps

      logs_reported : (ws : List Write) → logs (reported k a ss ws) ≡ logged a.events a.stats (report_on k ss) (logs ws)
      logs_reported ws =
          let told : Pieces = logged a.events a.stats (report_on k ss) (logs ws) in
          logs_append (map (write to_out) (outs ws)) (map (write to_log) told) ∙ (λ i. logs_to_out (outs ws) i ++ logs_to_log told i)

      -- it was all written
      all_reported : (ws : List Write) → f' ≡ None → Took out_old out_new (Taken c o e t f below) Counting ws
          → Took out_old out_new log_old log_new (reported k a ss ws)
      all_reported ws none took = record {
        out = subst (Takes out_old out_new) (sym (outs_reported k a ss ws)) took.out;
        log = subst (Takes log_old log_new) (sym (logs_reported ws))
            (λ g h had. at_end_whole fresh a.events a.stats log_old log_new c' o' e' t' f' g h (logs ws)
            (took.log (start fresh a.events a.stats log_old log_old g h) [] (begun g h had)) none);
      }

      pub answered : (x : End) → f' ≡ None → WroteAllOver out_old out_new (Taken c o e t f below) Counting prelude (all_told a) text x
          → is_run a.command ≡ true → WroteAllOver out_old out_new log_old log_new prelude a text x
      answered x none w is_one =
          let r = plain_run x w.writes w.is_answer in
          let told : List Write = all_writes (script_read a text prelude ss) a.steps true true r.outcome r.work in
          record {
            writes = reported k a ss told;
            is_answer = ran ss r.outcome r.work is_one is r.runs r.code_runs r.ends
                (λ i. with_summary (sym (reports_unsummed a.command k reports) i) a.steps r.outcome
                (script_writes (sym reports i) a text prelude ss r.outcome r.work));
            took = all_reported told none (subst (Took out_old out_new (Taken c o e t f below) Counting) r.writes w.took);
          }

      -- a front was written
      front_reported : (why : WriteErr) (ws : List Write) → TookFront out_old out_new (Taken c o e t f below) Counting why ws
          → ReportedFront out_old out_new log_old log_new why k a ss ws
      front_reported why ws took = record {
        done = took.done;
        rest = took.rest;
        is_front = took.is_front;
        stopped = took.stopped;
        out = took.out;
        log = λ g h had. front-mapped (Counting (start fresh a.events a.stats log_old log_old g h))
            (λ ps. one.TookFront (log_new g) h (logged a.events a.stats (report_on k ss) ps))
            (λ ps x. at_end fresh a.events a.stats log_old log_new c' o' e' t' f' g h ps x) (logs took.done) (logs (first took.rest))
            (took.log (start fresh a.events a.stats log_old log_old g h) [] (begun g h had));
      }

      pub front : (why : WriteErr) → WroteFrontOver out_old out_new (Taken c o e t f below) Counting prelude why (all_told a) text
          → WroteFrontOver out_old out_new log_old log_new prelude why a text
      front why w =
          let p = plain_front out_old out_new (Taken c o e t f below) Counting why w in
          of_reported_run k ss p.writes reports is p.first_written (front_reported why p.writes p.took)

      nothing_taken : Took out_old out_new (Taken c o e t f below) Counting [] → Took out_old out_new log_old log_new []
      nothing_taken none = record {
        out = none.out;
        log = λ g h had. subst (log_new g) (sym (append-nil h))
            (subst (one.TookFront (log_new g) h) (nothing-logged a.events a.stats (report_on k ss))
            (at_end fresh a.events a.stats log_old log_new c' o' e' t' f' g h []
            (none.log (start fresh a.events a.stats log_old log_old g h) [] (begun g h had))));
      }

      pub broke_off : (why : WriteErr) → BrokeOffOver out_old out_new (Taken c o e t f below) Counting prelude (all_told a) text why
          → BrokeOffOver out_old out_new log_old log_new prelude a text why
      broke_off (error.Failed which) w = front (error.Failed which) w
      broke_off error.Memory w = elim w [ inl none ↦ inl (nothing_taken none) | inr w ↦ inr (front error.Memory w) ]

      -- all that was counted was written, and some of it wasn't passed on
      pub broke_later : (x : End) → WroteAllOver out_old out_new (Taken c o e t f below) Counting prelude (all_told a) text x
          → BrokeOffOver out_old out_new log_old log_new prelude a text error.Memory
      broke_later x w = inr (front error.Memory (of_answer x w.writes w.is_answer
          (front_of_all out_old out_new (Taken c o e t f below) Counting w.writes w.took)))

      -- whether or not all was passed on
      pub all_of_it : (r : Result End WriteErr) → is_run a.command ≡ true
          → IfOk r (WroteAllOver out_old out_new (Taken c o e t f below) Counting prelude (all_told a) text)
          → IfOk (unless_failed f' r) (WroteAllOver out_old out_new log_old log_new prelude a text)
      all_of_it (Ok x) is_one w = go f' refl
        where
          go : (q : Option SinkErr) → f' ≡ q → IfOk (unless_failed q (Ok x)) (WroteAllOver out_old out_new log_old log_new prelude a text)
          go None none = answered x none w is_one
          go (Some why) some = tt
      all_of_it (Err why) is_one w = tt

      pub some_of_it : (r : Result End WriteErr)
          → IfOk r (WroteAllOver out_old out_new (Taken c o e t f below) Counting prelude (all_told a) text)
          → IfErr r (BrokeOffOver out_old out_new (Taken c o e t f below) Counting prelude (all_told a) text)
          → IfErr (unless_failed f' r) (BrokeOffOver out_old out_new log_old log_new prelude a text)
      some_of_it (Ok x) w b = go f'
        where
          go : (q : Option SinkErr) → IfErr (unless_failed q (Ok x)) (BrokeOffOver out_old out_new log_old log_new prelude a text)
          go None = tt
          go (Some why) = broke_later x w
      some_of_it (Err why) w b = broke_off why b

-- a write that failed is one of the run
pub failed_so : (f : Option SinkErr) (r : Result End WriteErr) (which : Out) → unless_failed f r ≡ Err (error.Failed which) → r ≡ Err (error.Failed which)
failed_so None (Ok x) which e = e
failed_so (Some why) (Ok x) which e = absurd (let no : unless_failed (Some why) (Ok x) ≡ Err (error.Failed which) = e in cc)
failed_so f (Err why) which e = e
