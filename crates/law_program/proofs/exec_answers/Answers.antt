-- `exec` of the file that `build` writes of a supported script answers as `run` of the script.
use Rattle.std.proofs.Common.{◌≡◌, ◌++◌, ◌-◌, ◌^◌, ℕ, min, List, Bool, Some, None, refl, sym, ap, ◌∙◌, subst, append_assoc}
use Rattle.pt_base.specs.declared.numbers.Line.{Line}
use Rattle.pt_tree.specs.Syntax.{Stms}
use Rattle.sem_run.specs.run.Run.{Write}
use Rattle.pt_bare_runs.specs.Strides as bare
use Rattle.pt_bare_runs.specs.Strides.{Ending, Outcome}
use Rattle.pt_heap.specs.declared.value.Value.{Value}
use Rattle.sem_rows.specs.pt_host.World.{Program, World, read_from}
use Rattle.pt_tracebacks.specs.Summaries.{summaries}
use Rattle.pt_machine_state.specs.Writing.{kept}
use Rattle.pt_supported.specs.Built.{unbuilt_of}
use Rattle.pt_front.proofs.Once.{never_both, one_script}
use Rattle.law_front.proofs.script_numbers.Scripts.{numbered}
use Rattle.pt_code.specs.declared.Code.{Code}
use Rattle.pt_code.specs.File.{HasFile, file}
use Rattle.law_typed_pieces.specs.law_operands.law_files.sem_compile.compile.ScriptCode.{code_of}
use Rattle.law_typed_pieces.specs.law_operands.law_files.code_files.Numbers.{NumbersFit}
use Rattle.law_typed_pieces.proofs.law_operands.law_files.code_files.Whole.{script_has_file}
use Rattle.law_compile.proofs.read_forms.Texts.{scripts_of_texts_are_formed}
use Rattle.pt_prog.specs.pt_run_script.pt_run_code.pt_runner.Ends.{block_name}
use Rattle.pt_prog.specs.pt_run_script.pt_run_code.pt_runner.Work.{Work}
use Rattle.pt_prog.specs.pt_run_script.pt_run_code.law_loading.script_program.ScriptProgram.{program_of}
use Rattle.pt_prog.specs.pt_run_script.pt_run_code.law_loading.code_program.CodeProgram.{program_of_code}
use Rattle.pt_prog.specs.pt_run_script.pt_run_code.law_loading.code_program.Laws.{IsRunnable}
use Rattle.pt_prog.specs.pt_run_script.pt_run_code.CodeRun.{CodeRunsTo}
use Rattle.pt_prog.specs.pt_run_script.ScriptRun.{CodeRunsBy}
use Rattle.law_program.specs.script_files.Laws.{HasCodeFile, HaveCodeFiles}
use Rattle.law_program.proofs.script_files.Programs.{code_has_one_program}
use Rattle.law_program.proofs.script_files.Supported.{shallow_code_is_runnable}
use Rattle.law_program.proofs.script_files.Runs.{code_runs_as_script, script_runs_as_code}
use Rattle.pt_words.specs.Words.{Asked}
use Rattle.pt_prog.specs.declared.end.End.{End}
use Rattle.pt_prog.specs.LogText.{Text, totals}
use Rattle.pt_prog.specs.Answer.{IsAnswerFor, IsAnswerOver, IsBuilt, IsCodeAnswer, IsFileOf, IsNoPrelude, IsUnbuilt}
use Rattle.pt_prog.specs.Answer.{bad_code, code_read, end_of, is_run, last_writes, no_prelude, of_code, over, ran, ran_code, refused, refused_prelude, run_writes, script_read, script_writes, tells_events, unbuilt, unbuilt_code, unbuilt_prelude, with_summary, wrote_code}
use Rattle.law_program.specs.exec_answers.Laws.{AskAlike, ExecAnswersAsRun, ExecHasOneAnswer, IsBuiltAs, RunAnswersAsExec, WriteAlike}
use Rattle.law_program.proofs.exec_answers.CodeFiles.{built_or_unbuilt, fits_or_bad, its_file, one_code}
use Rattle.law_program.proofs.exec_answers.Ends.{both_ways, code_answer, no_code, one_answer}

-- over the program that both run, read from a file of each
module _ (a b : Asked) (alike : AskAlike a b) (text : Text) (p : Program) where
  abbrev first : Program
  first = read_from a.script (Some text) p

  abbrev second : Program
  second = read_from b.script None p

  -- they write alike behind the same writes
  last_alike : (before : List Write) (n : ℕ) (e : Ending Value World)
      → WriteAlike a b text (end_of n e) (before ++ last_writes first n e) (before ++ last_writes second n e)
  last_alike before n bare.done = refl
  last_alike before n (bare.exited status said) = refl
  last_alike before n (bare.raised v w) = record { before = before; told = summaries (block_name p) w.heap v; first = refl; second = refl }
  last_alike before n bare.spent = refl
  last_alike before n (bare.outside_at what line) = refl

  module _ (o : Outcome Value World) (w : Work) where
    abbrev totals_by : Bool → List Write
    totals_by stats = totals stats o.units (min w.instructions (2 ^ 64 - 1)) w.depth

    -- all that a run writes before the last write
    abbrev before_last : Asked → List Write
    before_last x = kept (tells_events x) o.written ++ totals_by x.stats

    -- it depends on no more than what is asked alike
    same_before : before_last a ≡ before_last b
    same_before = λ i. kept (alike.events i) o.written ++ totals_by (alike.stats i)

    same_end : end_of a.steps o.ending ≡ end_of b.steps o.ending
    same_end = ap (λ n. end_of n o.ending) alike.steps

    first_writes : run_writes first a o w ≡ before_last b ++ last_writes first b.steps o.ending
    first_writes =
        sym (append_assoc (kept (tells_events a) o.written) (totals_by a.stats) (last_writes first a.steps o.ending))
        ∙ (λ i. same_before i ++ last_writes first (alike.steps i) o.ending)

    second_writes : run_writes second b o w ≡ before_last b ++ last_writes second b.steps o.ending
    second_writes = sym (append_assoc (kept (tells_events b) o.written) (totals_by b.stats) (last_writes second b.steps o.ending))

    pub write_alike : WriteAlike a b text (end_of b.steps o.ending) (run_writes first a o w) (run_writes second b o w)
    write_alike =
        subst (λ ws. WriteAlike a b text (end_of b.steps o.ending) ws (run_writes second b o w)) (sym first_writes)
        (subst (WriteAlike a b text (end_of b.steps o.ending) (before_last b ++ last_writes first b.steps o.ending)) (sym second_writes)
        (last_alike (before_last b) b.steps o.ending))

module _ (text : Text) (ss : Stms) (bytes : Text) (made : IsBuiltAs text ss bytes) where
  abbrev c : Code
  c = code_of ss

  written : HasFile c × (bytes ≡ file c)
  written =
      let build = made.is_written in
      subst (λ s. HasFile (code_of s) × (bytes ≡ file (code_of s))) (one_script text build.script ss build.is_script made.is_built.is_script) build.is_written

  has : HasCodeFile text ss
  has = record { is_script = made.is_built.is_script; is_built = made.is_built.is_built; has_file = written.0 }

  is_file : IsFileOf bytes c
  is_file = record { is_file = written.1; has_file = written.0 }

  supported : {A : Type 0} (line : Line) → IsUnbuilt text line → A
  supported line u =
      let none : unbuilt_of u.script ≡ None = ap unbuilt_of (one_script text u.script ss u.is_script made.is_built.is_script) ∙ made.is_built.is_built in
      let bad : Some line.0 ≡ None = sym u.is_first ∙ none in absurd cc

  -- over a prelude
  module _ (source : Text) (prelude : Stms) (its : IsBuilt source prelude) where
    abbrev first_code : Code
    first_code = code_of prelude

    -- its code has a file too, where its numbers fit
    both_have : HasFile first_code → HaveCodeFiles prelude ss
    both_have file = record {
      prelude_text = source;
      of_prelude = record { is_script = its.is_script; is_built = its.is_built; has_file = file };
      script_text = text;
      of_script = has;
    }

    has_prelude_file : NumbersFit first_code → HasFile first_code
    has_prelude_file fit =
        let w = scripts_of_texts_are_formed source prelude its.is_script in
        script_has_file prelude (numbered w.0 prelude w.1.is_script) its.is_script.no_fault fit

    -- a run of the code of both has this end, and so much is written of it, as it is asked of this program
    record Ran (p : Program) (a b : Asked) (e : End) (ws : List Write) : Type 0 where
      first_runs : IsRunnable first_code
      outcome : Outcome Value World
      work : Work
      runs : CodeRunsTo first_code c b.steps outcome work
      ends : e ≡ end_of b.steps outcome.ending
      writes : ws ≡ run_writes p a outcome work

    module _ (a b : Asked) (alike : AskAlike a b) where
      -- what is written of an outcome is alike
      outcome_alike : HasFile first_code → (o : Outcome Value World) (w : Work)
          → WriteAlike a b text (end_of b.steps o.ending) (run_writes (script_read a text prelude ss) a o w) (run_writes (code_read b first_code c) b o w)
      outcome_alike file o w =
          -- the host knows the same of both
          let same : program_of_code first_code c ≡ program_of prelude ss = code_has_one_program prelude ss (both_have file) in
          subst (λ p. WriteAlike a b text (end_of b.steps o.ending) (run_writes (script_read a text prelude ss) a o w) (run_writes (read_from b.script None p) b o w))
          (sym same) (write_alike a b alike text (program_of prelude ss) o w)

      alike_so : HasFile first_code → (o : Outcome Value World) (w : Work) (e : End) (ws vs : List Write) → e ≡ end_of b.steps o.ending
          → ws ≡ run_writes (script_read a text prelude ss) a o w → vs ≡ run_writes (code_read b first_code c) b o w → WriteAlike a b text e ws vs
      alike_so file o w e ws vs i u v =
          subst (λ f. WriteAlike a b text f ws vs) (sym i)
          (subst (λ ys. WriteAlike a b text (end_of b.steps o.ending) ys vs) (sym u)
          (subst (WriteAlike a b text (end_of b.steps o.ending) (run_writes (script_read a text prelude ss) a o w)) (sym v) (outcome_alike file o w)))

      run_ran : (e : End) (ws : List Write) → IsAnswerOver prelude a text e ws → IsRunnable c × Ran (script_read a text prelude ss) a b e ws
      run_ran e ws (of_code r x) = no_code a.command alike.runs r
      run_ran e ws (refused error n x i u) = absurd (never_both text ss error made.is_built.is_script x)
      run_ran e ws (unbuilt line r x i u) = supported line x
      run_ran e ws (ran zz o w r x to by i u) =
          let same : zz ≡ ss = one_script text zz ss x.is_script made.is_built.is_script in
          let its_run = subst (λ s. CodeRunsBy prelude s a.steps o w) same by in
          let run = code_runs_as_script prelude ss (both_have (has_prelude_file its_run.numbers_fit.0)) a.steps o w its_run in (
            run.1.0,
            record {
              first_runs = run.0;
              outcome = o;
              work = w;
              runs = subst (λ n. CodeRunsTo first_code c n o w) alike.steps run.1.1;
              ends = i ∙ same_end a b alike text (program_of prelude ss) o w;
              writes = u ∙ (λ m. with_summary (alike.sums_nothing m) a.steps o (script_writes (alike.reports_nothing m) a text prelude zz o w))
                  ∙ ap (λ s. run_writes (script_read a text prelude s) a o w) same;
            },
          )
      run_ran e ws (wrote_code ls n x i u) = both_ways (is_run a.command) alike.runs n

      executed : (e : End) (ws : List Write) → IsAnswerOver prelude a text e ws
          → (vs : List Write) × (IsAnswerOver prelude b bytes e vs × WriteAlike a b text e ws vs)
      executed e ws x =
          let run = run_ran e ws x in
          let r = run.1 in
          let vs : List Write = run_writes (code_read b first_code c) b r.outcome r.work in (
            vs,
            (
              of_code alike.executes
                  (ran_code c r.outcome r.work r.first_runs (record { is_file = written.1; is_runnable = run.0 }) r.runs r.ends refl),
              alike_so r.first_runs.has_file r.outcome r.work e ws vs r.ends r.writes refl,
            ),
          )

      -- where its code is run
      module _ (runnable : IsRunnable c) where
        by_code : (e : End) (ws : List Write) → IsCodeAnswer prelude b bytes e ws → Ran (code_read b first_code c) b b e ws
        by_code e ws (bad_code error x i u) = absurd (fits_or_bad bytes c is_file runnable.fit error x)
        by_code e ws (unbuilt_code line x i u) = absurd (built_or_unbuilt bytes c is_file runnable.built line x)
        by_code e ws (ran_code d o w ready x to i u) =
            let same : d ≡ c = one_code bytes d c (its_file bytes d x) is_file in
            record {
              first_runs = ready;
              outcome = o;
              work = w;
              runs = subst (λ z. CodeRunsTo first_code z b.steps o w) same to;
              ends = i;
              writes = u ∙ ap (λ z. run_writes (code_read b first_code z) b o w) same;
            }

        ran_as : (e : End) (vs : List Write) → IsAnswerOver prelude b bytes e vs
            → (ws : List Write) × (IsAnswerOver prelude a text e ws × WriteAlike a b text e ws vs)
        ran_as e vs x =
            let r = by_code e vs (code_answer b bytes prelude alike.executes e vs x) in
            let o = r.outcome in
            let w = r.work in
            let file = r.first_runs.has_file in
            let run = script_runs_as_code prelude ss (both_have file) r.first_runs.fit runnable.fit a.steps o w
            (subst (λ n. CodeRunsTo first_code c n o w) (sym alike.steps) r.runs) in
            let ws : List Write = run_writes (script_read a text prelude ss) a o w in (
              ws,
              (
                ran ss o w alike.runs made.is_built run.0 run.1 (r.ends ∙ sym (same_end a b alike text (program_of prelude ss) o w))
                    (λ m. with_summary (sym alike.sums_nothing m) a.steps o (script_writes (sym alike.reports_nothing m) a text prelude ss o w)),
                alike_so file o w e ws vs r.ends refl r.writes,
              ),
            )

  -- where there is no prelude, both say so
  none_alike : (a b : Asked) (e : End) (ws : List Write) → IsNoPrelude e → WriteAlike a b text e ws ws
  none_alike a b e ws (refused_prelude error x i) = subst (λ f. WriteAlike a b text f ws ws) (sym i) refl
  none_alike a b e ws (unbuilt_prelude line x i) = subst (λ f. WriteAlike a b text f ws ws) (sym i) refl

  module _ (a b : Asked) (alike : AskAlike a b) where
    executes_as : (e : End) (ws : List Write) → IsAnswerFor a text e ws → (vs : List Write) × (IsAnswerFor b bytes e vs × WriteAlike a b text e ws vs)
    executes_as e ws (no_prelude n u) = (ws, (no_prelude n u, none_alike a b e ws n))
    executes_as e ws (over prelude is x) = let r = executed _ prelude is a b alike e ws x in (r.0, (over prelude is r.1.0, r.1.1))

    runs_as : IsRunnable c → (e : End) (vs : List Write) → IsAnswerFor b bytes e vs → (ws : List Write) × (IsAnswerFor a text e ws × WriteAlike a b text e ws vs)
    runs_as runnable e vs (no_prelude n u) = (vs, (no_prelude n u, none_alike a b e vs n))
    runs_as runnable e vs (over prelude is x) = let r = ran_as _ prelude is a b alike runnable e vs x in (r.0, (over prelude is r.1.0, r.1.1))

    has_one_answer : (e f : End) (ws vs : List Write) → IsAnswerFor a text e ws → IsAnswerFor b bytes f vs → (e ≡ f) × WriteAlike a b text e ws vs
    has_one_answer e f ws vs x y =
        let by = executes_as e ws x in
        let same = one_answer b bytes e f by.0 vs alike.executes by.1.0 y in
        (same.0, subst (WriteAlike a b text e ws) same.1 by.1.1)

pub exec_answers_as_run : ExecAnswersAsRun
exec_answers_as_run a b text ss bytes alike made e ws x = executes_as text ss bytes made a b alike e ws x

pub exec_has_one_answer : ExecHasOneAnswer
exec_has_one_answer a b text ss bytes alike made e f ws vs x y = has_one_answer text ss bytes made a b alike e f ws vs x y

pub run_answers_as_exec : RunAnswersAsExec
run_answers_as_exec a b text ss bytes alike made shallow e vs x =
    runs_as text ss bytes made a b alike (shallow_code_is_runnable text ss (has text ss bytes made) shallow) e vs x
