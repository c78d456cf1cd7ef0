-- From what was written of a run, and behind it, to the answer for a text over a prelude.
use Rattle.std.proofs.Common.{◌≡◌, ◌∙◌, ◌++◌, ◌-◌, ◌^◌, ℕ, min, true, false, List, Option, Some, None, Result, Ok, Err, IfOk, IfErr, inr, refl, sym, ap, subst}
use Rattle.std.specs.Prelude.{IsErr, IsErrAnd, MatchOption}
use Rattle.pt_base.specs.Taken.{Pieces}
use Rattle.pt_tree.specs.Syntax.{Stms}
use Rattle.sem_run.specs.run.Run.{Write}
use Rattle.pt_heap.specs.declared.value.Value.{Value}
use Rattle.sem_fits.specs.fits.Fits.{AllFit}
use Rattle.pt_host.specs.World.{Program, World}
use Rattle.pt_bare_runs.specs.Strides as bare
use Rattle.pt_bare_runs.specs.Strides.{Ending}
use Rattle.pt_machine_state.specs.Writing.{kept}
use Rattle.pt_run_script.specs.pt_run_code.pt_runner.Ends.{IsEnding, block_name}
use Rattle.pt_run_script.proofs.pt_run_code.pt_runner.AdvanceLemmas.{if_err}
use Rattle.pt_run_script.specs.pt_run_code.pt_runner.declared.ending.Ended.{Ended}
use Rattle.pt_run_script.specs.pt_run_code.pt_runner.declared.ending.RunEnd.{RunEnd}
use Rattle.pt_run_script.specs.pt_run_code.pt_runner.declared.ending.RunEnd.TheVariants as run
use Rattle.pt_bare_runs.specs.Strides.{Outcome}
use Rattle.pt_code.specs.declared.Code.{Code}
use Rattle.pt_run_script.specs.pt_run_code.pt_runner.Work.{Work}
use Rattle.pt_base.specs.declared.numbers.Line.{Line}
use Rattle.pt_supported_code.specs.Built.{BuiltCode, IsUnbuiltCode}
use Rattle.law_files.specs.sem_compile.compile.ScriptCode.{code_of}
use Rattle.pt_run_script.specs.pt_run_code.law_loading.code_program.Laws.{IsRunnable}
use Rattle.pt_run_script.specs.pt_run_code.CodeRun.{CodeBrokeOff, CodeFinished}
use Rattle.pt_run_script.specs.ScriptRun.{ScriptBrokeOff, ScriptFinished}
use Rattle.pt_sinks.specs.Writing.{Took, TookFront}
use Rattle.pt_sinks.specs.declared.writing.WriteErr.{WriteErr}
use Rattle.pt_sinks.specs.declared.writing.WriteErr.TheVariants as error
use Rattle.pt_sinks.proofs.WritingLemmas.{took_behind, front_behind, front_before}
use Rattle.pt_words.specs.Words.{Asked}
use Rattle.pt_prog.specs.declared.end.End.{End}
use Rattle.pt_prog.specs.declared.end.End.TheVariants as end
use Rattle.pt_prog.specs.LogText.{Text, final, line_of, totals, traced}
use Rattle.pt_prog.specs.RunEnds.{end_of_run, last_of_run}
use Rattle.pt_prog.specs.Limits.{reads_code}
use Rattle.pt_prog.specs.Answer.{BrokeOffOver, IsAnswerOver, IsBuilt, IsFileOf, IsRunnableFile, IsUnbuiltFile, WroteAllOver, WroteFrontOver, code_read, end_of, is_run, last_writes, of_answer, of_code, of_code_run, of_run, ran, ran_code, report_kind, run_writes, script_read, script_writes, sums_up, tells_events, with_summary}

-- the end of a run is that of its outcome
pub same_end : (name : ℕ → List ℕ) (n : ℕ) (x : RunEnd) (e : Ending Value World) → IsEnding name x e → end_of_run n x ≡ end_of n e
same_end name n run.Done bare.done i = refl
same_end name n run.Done (bare.exited k t) i = absurd i
same_end name n run.Done (bare.raised v w) i = absurd i
same_end name n run.Done bare.spent i = absurd i
same_end name n run.Done (bare.outside_at w l) i = absurd i
same_end name n (run.Exited status text) bare.done i = absurd i
same_end name n (run.Exited status text) (bare.exited k t) i = ap (λ s. end.Exited s) (sym i.0)
same_end name n (run.Exited status text) (bare.raised v w) i = absurd i
same_end name n (run.Exited status text) bare.spent i = absurd i
same_end name n (run.Exited status text) (bare.outside_at w l) i = absurd i
same_end name n (run.Raised told) bare.done i = absurd i
same_end name n (run.Raised told) (bare.exited k t) i = absurd i
same_end name n (run.Raised told) (bare.raised v w) i = refl
same_end name n (run.Raised told) bare.spent i = absurd i
same_end name n (run.Raised told) (bare.outside_at w l) i = absurd i
same_end name n run.Spent bare.done i = absurd i
same_end name n run.Spent (bare.exited k t) i = absurd i
same_end name n run.Spent (bare.raised v w) i = absurd i
same_end name n run.Spent bare.spent i = refl
same_end name n run.Spent (bare.outside_at w l) i = absurd i
same_end name n (run.Outside what line) bare.done i = absurd i
same_end name n (run.Outside what line) (bare.exited k t) i = absurd i
same_end name n (run.Outside what line) (bare.raised v w) i = absurd i
same_end name n (run.Outside what line) bare.spent i = absurd i
same_end name n (run.Outside what line) (bare.outside_at w l) i = λ k. end.Outside (sym i.0 k) (record { 0 = sym i.1 k })

-- and so is the log's last write
module _ (p : Program) where
  pub same_last : (n : ℕ) (x : RunEnd) (e : Ending Value World) → IsEnding (block_name p) x e → last_of_run p.file p.source n x ≡ last_writes p n e
  same_last n run.Done bare.done i = refl
  same_last n run.Done (bare.exited k t) i = absurd i
  same_last n run.Done (bare.raised v w) i = absurd i
  same_last n run.Done bare.spent i = absurd i
  same_last n run.Done (bare.outside_at w l) i = absurd i
  same_last n (run.Exited status text) bare.done i = absurd i
  same_last n (run.Exited status text) (bare.exited k t) i = ap line_of (sym i.1)
  same_last n (run.Exited status text) (bare.raised v w) i = absurd i
  same_last n (run.Exited status text) bare.spent i = absurd i
  same_last n (run.Exited status text) (bare.outside_at w l) i = absurd i
  same_last n (run.Raised told) bare.done i = absurd i
  same_last n (run.Raised told) (bare.exited k t) i = absurd i
  same_last n (run.Raised told) (bare.raised v w) i = ap (traced p.file p.source) i
  same_last n (run.Raised told) bare.spent i = absurd i
  same_last n (run.Raised told) (bare.outside_at w l) i = absurd i
  same_last n run.Spent bare.done i = absurd i
  same_last n run.Spent (bare.exited k t) i = absurd i
  same_last n run.Spent (bare.raised v w) i = absurd i
  same_last n run.Spent bare.spent i = refl
  same_last n run.Spent (bare.outside_at w l) i = absurd i
  same_last n (run.Outside what line) bare.done i = absurd i
  same_last n (run.Outside what line) (bare.exited k t) i = absurd i
  same_last n (run.Outside what line) (bare.raised v w) i = absurd i
  same_last n (run.Outside what line) bare.spent i = absurd i
  same_last n (run.Outside what line) (bare.outside_at w l) i = λ k. final (end.Outside (sym i.0 k) (record { 0 = sym i.1 k }))

module _ (prelude : Stms) (a : Asked) (text : Text) (out_old out_new log_old log_new : Pieces → Pieces → Type 0) where
  abbrev Front : WriteErr → Type 0
  Front why = WroteFrontOver out_old out_new log_old log_new prelude why a text

  abbrev All : End → Type 0
  All e = WroteAllOver out_old out_new log_old log_new prelude a text e

  abbrev Broke : WriteErr → Type 0
  Broke e = BrokeOffOver out_old out_new log_old log_new prelude a text e

  pub broke : (e : WriteErr) → Front e → Broke e
  broke (error.Failed which) f = f
  broke error.Memory f = inr f

  pub every_err : (r : Result End WriteErr) (e : WriteErr) → IsErr r × IsErrAnd r (λ f. f ≡ e) → Front e → IfErr r Broke
  every_err r e from f = if_err Broke r e from (broke e f)

  pub every_err_of : (r : Result End WriteErr) (ws : List Write) (e : End) → IsAnswerOver prelude a text e ws
      → IfErr r (λ why. TookFront out_old out_new log_old log_new why ws) → IfErr r Broke
  every_err_of (Ok x) ws e i f = tt
  every_err_of (Err x) ws e i f = broke x (of_answer e ws i f)

  pub every_ok_of : (r : Result End WriteErr) (ws : List Write) (e : End) → IsAnswerOver prelude a text e ws
      → IfOk r (λ x. (x ≡ e) × Took out_old out_new log_old log_new ws) → IfOk r All
  every_ok_of (Ok x) ws e i f = record { writes = ws; is_answer = subst (λ y. IsAnswerOver prelude a text y ws) (sym f.0) i; took = f.1 }
  every_ok_of (Err x) ws e i f = tt

-- what a run took that came to an outcome by this work
pub record RunTaken (a : Asked) (p : Program) (x : Ended) (o : Outcome Value World) (w : Work) (out_old out_ran log_old log_ran : Pieces → Pieces → Type 0) : Type 0 where
  pub units : o.units ≡ x.totals.acts
  pub instructions : x.totals.instructions ≡ min w.instructions (2 ^ 64 - 1)
  pub depth : x.totals.depth ≡ w.depth
  pub ends : IsEnding (block_name p) x.end o.ending
  pub took : Took out_old out_ran log_old log_ran (kept (tells_events a) o.written)

-- behind it stand its totals and its last write, and these are all
module _ (a : Asked) (p : Program) (x : Ended) (o : Outcome Value World) (w : Work) (out_old out_ran log_old log_ran : Pieces → Pieces → Type 0)
    (f : RunTaken a p x o w out_old out_ran log_old log_ran) where
  same_totals : totals a.stats x.totals.acts x.totals.instructions x.totals.depth ≡ totals a.stats o.units (min w.instructions (2 ^ 64 - 1)) w.depth
  same_totals = λ i. totals a.stats (sym f.units i) (f.instructions i) (f.depth i)

  pub all_are_written : kept (tells_events a) o.written
      ++ (totals a.stats x.totals.acts x.totals.instructions x.totals.depth ++ last_of_run p.file p.source a.steps x.end) ≡ run_writes p a o w
  all_are_written =
      ap (λ ts. kept (tells_events a) o.written ++ (ts ++ last_of_run p.file p.source a.steps x.end)) same_totals
      ∙ ap (λ l. kept (tells_events a) o.written ++ (totals a.stats o.units (min w.instructions (2 ^ 64 - 1)) w.depth ++ l))
      (same_last p a.steps x.end o.ending f.ends)

-- the answer of a run, for a text of a script or for the bytes of code
abbrev pub Says : (prelude : Stms) → Asked → Text → Program → Outcome Value World → Work → Type 0
Says prelude a text p o w = (e : End) (ws : List Write) → e ≡ end_of a.steps o.ending → ws ≡ run_writes p a o w → IsAnswerOver prelude a text e ws

module _ (prelude : Stms) (a : Asked) (text : Text) (ss : Stms) (is : IsBuilt text ss) (runs : is_run a.command ≡ true) (plain : report_kind a.command ≡ None)
    (unsummed : sums_up a.command ≡ false) (x : Ended) (out_old out_ran log_old log_ran : Pieces → Pieces → Type 0)
    (f : ScriptFinished prelude ss a.steps (tells_events a) out_old out_ran log_old log_ran x) where
  pub script_taken : RunTaken a (script_read a text prelude ss) x f.outcome f.work out_old out_ran log_old log_ran
  script_taken = record { units = f.units; instructions = f.instructions; depth = f.depth; ends = f.ends; took = f.took }

  pub script_says : Says prelude a text (script_read a text prelude ss) f.outcome f.work
  script_says e ws is_end are =
      ran ss f.outcome f.work runs is f.runs f.code_runs is_end
      (are ∙ (λ i. with_summary (sym unsummed i) a.steps f.outcome (script_writes (sym plain i) a text prelude ss f.outcome f.work)))

module _ (prelude : Stms) (a : Asked) (text : Text) (c : Code) (ready : IsRunnable (code_of prelude)) (is : IsRunnableFile text c) (reads : reads_code a.command ≡ true) (x : Ended)
    (out_old out_ran log_old log_ran : Pieces → Pieces → Type 0) (f : CodeFinished (code_of prelude) c a.steps (tells_events a) out_old out_ran log_old log_ran x) where
  pub code_taken : RunTaken a (code_read a (code_of prelude) c) x f.outcome f.work out_old out_ran log_old log_ran
  code_taken = record { units = f.units; instructions = f.instructions; depth = f.depth; ends = f.ends; took = f.took }

  pub code_says : Says prelude a text (code_read a (code_of prelude) c) f.outcome f.work
  code_says e ws is_end are = of_code reads (ran_code c f.outcome f.work ready is f.runs is_end are)

-- a run that came to its outcome, and what the log got behind it
module _ (prelude : Stms) (a : Asked) (text : Text) (p : Program) (x : Ended) (o : Outcome Value World) (w : Work) (says : Says prelude a text p o w)
    (out_old out_ran log_old log_ran : Pieces → Pieces → Type 0) (f : RunTaken a p x o w out_old out_ran log_old log_ran) where
  abbrev written : List Write
  written = kept (tells_events a) o.written

  abbrev totals_written : List Write
  totals_written = totals a.stats x.totals.acts x.totals.instructions x.totals.depth

  abbrev last_written : List Write
  last_written = last_of_run p.file p.source a.steps x.end

  abbrev all_written : List Write
  all_written = written ++ (totals_written ++ last_written)

  is_all : all_written ≡ run_writes p a o w
  is_all = all_are_written a p x o w out_old out_ran log_old log_ran f

  pub answer : IsAnswerOver prelude a text (end_of_run a.steps x.end) all_written
  answer = says (end_of_run a.steps x.end) all_written (same_end (block_name p) a.steps x.end o.ending f.ends) is_all

  module _ (out_new log_new : Pieces → Pieces → Type 0) where
    pub front_of_totals : (why : WriteErr) → TookFront out_ran out_new log_ran log_new why totals_written
        → WroteFrontOver out_old out_new log_old log_new prelude why a text
    front_of_totals why t =
        of_answer (end_of_run a.steps x.end) all_written answer
        (front_behind out_old out_ran out_new log_old log_ran log_new why written (totals_written ++ last_written) f.took
        (front_before out_ran out_new log_ran log_new why totals_written last_written t))

    module _ (out_told log_told : Pieces → Pieces → Type 0) (t : Took out_ran out_told log_ran log_told totals_written) where
      front_of_last : (why : WriteErr) → TookFront out_told out_new log_told log_new why last_written
          → TookFront out_old out_new log_old log_new why all_written
      front_of_last why l =
          front_behind out_old out_ran out_new log_old log_ran log_new why written (totals_written ++ last_written) f.took
          (front_behind out_ran out_told out_new log_ran log_told log_new why totals_written last_written t l)

      all_of_last : Took out_told out_new log_told log_new last_written → Took out_old out_new log_old log_new all_written
      all_of_last l =
          took_behind out_old out_ran out_new log_old log_ran log_new written (totals_written ++ last_written) f.took
          (took_behind out_ran out_told out_new log_ran log_told log_new totals_written last_written t l)

      pub ok_behind : (r : Result End WriteErr) → IfOk r (λ e. (e ≡ end_of_run a.steps x.end) × Took out_told out_new log_told log_new last_written)
          → IfOk r (WroteAllOver out_old out_new log_old log_new prelude a text)
      ok_behind (Ok e) l =
          record { writes = all_written; is_answer = subst (λ z. IsAnswerOver prelude a text z all_written) (sym l.0) answer; took = all_of_last l.1 }
      ok_behind (Err e) l = tt

      pub err_behind : (r : Result End WriteErr) → IfErr r (λ why. TookFront out_told out_new log_told log_new why last_written)
          → IfErr r (BrokeOffOver out_old out_new log_old log_new prelude a text)
      err_behind (Ok e) l = tt
      err_behind (Err e) l = broke prelude a text out_old out_new log_old log_new e (of_answer (end_of_run a.steps x.end) all_written answer (front_of_last e l))

-- a run that was broken off
module _ (prelude : Stms) (a : Asked) (text : Text) (ss : Stms) (is : IsBuilt text ss) (runs : is_run a.command ≡ true) (plain : report_kind a.command ≡ None)
    (out_old out_new log_old log_new : Pieces → Pieces → Type 0) where
  pub front_of_run : (why : WriteErr) → ScriptBrokeOff prelude ss a.steps (tells_events a) out_old out_new log_old log_new why
      → WroteFrontOver out_old out_new log_old log_new prelude why a text
  front_of_run why b = of_run ss b.written runs plain is b.first b.took

module _ (prelude : Stms) (a : Asked) (text : Text) (c : Code) (ready : IsRunnable (code_of prelude)) (is : IsRunnableFile text c) (reads : reads_code a.command ≡ true) (out_old out_new log_old log_new : Pieces → Pieces → Type 0) where
  pub front_of_code_run : (why : WriteErr) → CodeBrokeOff (code_of prelude) c a.steps (tells_events a) out_old out_new log_old log_new why
      → WroteFrontOver out_old out_new log_old log_new prelude why a text
  front_of_code_run why b = of_code_run c b.written reads ready is b.first b.took

pub is_built : (code : Code) (o : Option Line) → MatchOption o (BuiltCode code) (IsUnbuiltCode code) → o ≡ None → BuiltCode code
is_built code None built e = built
is_built code (Some line) built e = absurd (let no : Some line ≡ None = e in cc)

-- of a code file that is read and fits
module _ (bytes : Text) (code : Code) (is : IsFileOf bytes code) (fits : AllFit code) where
  pub runnable : (o : Option Line) → MatchOption o (BuiltCode code) (IsUnbuiltCode code) → o ≡ None → IsRunnableFile bytes code
  runnable o found e = record { is_file = is.is_file; is_runnable = record { has_file = is.has_file; fit = fits; built = is_built code o found e } }

  pub unbuilt_file : (o : Option Line) (line : Line) → MatchOption o (BuiltCode code) (IsUnbuiltCode code) → o ≡ Some line → IsUnbuiltFile bytes line
  unbuilt_file o line found e =
      record { code = code; is_file = is; fits = fits; is_first = subst (λ p. MatchOption p (BuiltCode code) (IsUnbuiltCode code)) e found }
