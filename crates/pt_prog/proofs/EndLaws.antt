-- The text of a script says one end at most, and its run prints one output.
use Rattle.std.proofs.Common.{◌≡◌, ◌++◌, ◌-◌, ◌^◌, ℕ, min, List, [], ◌∷◌, map, Bool, true, false, Option, Some, None, refl, sym, ap, ◌∙◌, subst, append-nil}
use Rattle.std.proofs.lemmas.Bool.{true≢false}
use Rattle.pt_base.specs.declared.numbers.Line.{Line}
use Rattle.pt_base.specs.Taken.{Pieces}
use Rattle.pt_tree.specs.Syntax.{Stms}
use Rattle.pt_heap.specs.declared.value.Value.{Value}
use Rattle.pt_heap.specs.declared.value.Value.TheVariants as value
use Rattle.pt_host.specs.HeapHost.{heap_host}
use Rattle.pt_host.specs.World.{World}
use Rattle.pt_host.specs.Calls.{module_names, module_world}
use Rattle.sem_run.specs.run.Run.{Write, write, to_log, to_out}
use Rattle.pt_bare_runs.specs.Strides.{Outcome}
use Rattle.pt_bare_runs.proofs.BareRuns.{bare_runs_once}
use Rattle.pt_machine_state.specs.Writing.{kept}
use Rattle.pt_sinks.specs.Writing.{logs, outs}
use Rattle.pt_sinks.proofs.WritingLemmas.{outs_append}
use Rattle.pt_run_script.specs.pt_run_code.law_loading.script_program.ScriptProgram.{program_of}
use Rattle.pt_run_script.specs.law_compile.script_runs.Blocks.{the_module}
use Rattle.pt_run_script.specs.law_compile.script_runs.ProgramBlocks.{program_machine}
use Rattle.pt_run_script.specs.pt_run_code.pt_runner.Work.{Work}
use Rattle.pt_run_script.specs.ScriptRun.{RunsTo}
use Rattle.pt_supported.specs.Built.{unbuilt_of}
use Rattle.pt_prelude.specs.declared.source.TheConstants.{PRELUDE}
use Rattle.pt_front.proofs.Once.{one_script, one_refusal, never_both}
use Rattle.pt_words.specs.Words.{Asked}
use Rattle.pt_words.specs.declared.line.Command.{Command}
use Rattle.pt_words.specs.declared.line.Command.TheVariants as command
use Rattle.pt_prog.specs.Limits.{reads_code}
use Rattle.pt_prog.specs.declared.end.End.{End}
use Rattle.pt_prog.specs.declared.end.End.TheVariants as end
use Rattle.pt_prog.specs.LogText.{Text, final, summary, totals}
use Rattle.pt_cover.specs.Reports.{logged}
use Rattle.pt_cover.specs.declared.kind.ReportKind.{ReportKind}
use Rattle.pt_prog.specs.Answer.{IsAnswerFor, IsAnswerOver, IsEndFor, IsNoPrelude, IsUnbuilt, IsBuilt, all_writes, end_of, is_run, last_writes, lines_in, report_kind, report_on, reported, script_read, script_writes, sums_up, tells_events, with_summary, no_prelude, of_code, over, ran, refused, refused_prelude, unbuilt, unbuilt_prelude, wrote_code}

one_ending : (prelude ss : Stms) (n : ℕ) (o p : Outcome Value World) → RunsTo prelude ss n o → RunsTo prelude ss n p → o ≡ p
one_ending prelude ss n o p a b =
    let program = program_of prelude ss in
    bare_runs_once (program_machine value.None prelude ss) (heap_host program) n the_module (module_names program) (module_world program) o p a b

-- what is run as a script is no code
run_no_code : (c : Command) → is_run c ≡ true → reads_code c ≡ false
run_no_code command.Run e = refl
run_no_code command.Trace e = refl
run_no_code command.Dis e = refl
run_no_code command.Build e = refl
run_no_code command.Exec e = absurd (true≢false (sym e))
run_no_code command.Cover e = refl
run_no_code command.Profile e = refl
run_no_code (command.Gen count) e = refl

-- a report goes to the log
outs_to_out : (ps : Pieces) → outs (map (write to_out) ps) ≡ ps
outs_to_out [] = refl
outs_to_out (p ∷ ps) = ap (λ qs. p ∷ qs) (outs_to_out ps)

outs_to_log : (ps : Pieces) → outs (map (write to_log) ps) ≡ []
outs_to_log [] = refl
outs_to_log (p ∷ ps) = outs_to_log ps

pub outs_reported : (k : ReportKind) (a : Asked) (ss : Stms) (ws : List Write) → outs (reported k a ss ws) ≡ outs ws
outs_reported k a ss ws =
    let told : Pieces = logged a.events a.stats (report_on k ss) (logs ws) in
    outs_append (map (write to_out) (outs ws)) (map (write to_log) told)
    ∙ (λ i. outs_to_out (outs ws) i ++ outs_to_log told i) ∙ append-nil (outs ws)

module _ (text : Text) where
  one_line : (k l : Line) → IsUnbuilt text k → IsUnbuilt text l → end.Unbuilt k ≡ end.Unbuilt l
  one_line k l u v =
      let same : u.script ≡ v.script = one_script text u.script v.script u.is_script v.is_script in
      let first : Some k.0 ≡ Some l.0 = sym u.is_first ∙ ap unbuilt_of same ∙ v.is_first in
      let line : k.0 ≡ l.0 = cc in λ i. end.Unbuilt (record { 0 = line i })

  pub not_both : (line : Line) (ss : Stms) → IsUnbuilt text line → IsBuilt text ss → ⊥
  not_both line ss u b =
      let none : unbuilt_of u.script ≡ None = ap unbuilt_of (one_script text u.script ss u.is_script b.is_script) ∙ b.is_built in
      let bad : Some line.0 ≡ None = sym u.is_first ∙ none in absurd cc

module _ (prelude : Stms) (a : Asked) (text : Text) where
  one_end : (ss zz : Stms) (o p : Outcome Value World) → IsBuilt text ss → IsBuilt text zz → RunsTo prelude ss a.steps o → RunsTo prelude zz a.steps p
      → end_of a.steps o.ending ≡ end_of a.steps p.ending
  one_end ss zz o p b c r q =
      let same : ss ≡ zz = one_script text ss zz b.is_script c.is_script in
      ap (λ z. end_of a.steps z.ending) (one_ending prelude zz a.steps o p (subst (λ s. RunsTo prelude s a.steps o) same r) q)

  run_or_code : is_run a.command ≡ true → is_run a.command ≡ false → ⊥
  run_or_code r l = true≢false (sym r ∙ l)

  code_or_script : {A : Type 0} → reads_code a.command ≡ false → reads_code a.command ≡ true → A
  code_or_script n r = absurd (true≢false (sym r ∙ n))

  answers_once : reads_code a.command ≡ false → (e f : End) (ws vs : List Write) → IsAnswerOver prelude a text e ws → IsAnswerOver prelude a text f vs → e ≡ f
  answers_once plain e f ws vs (of_code r x) y = code_or_script plain r
  answers_once plain e f ws vs x (of_code r y) = code_or_script plain r
  answers_once plain e f ws vs (refused q n x i u) (refused r m y j v) = i ∙ ap (λ r. end.Refused r) (one_refusal text q r x y) ∙ sym j
  answers_once plain e f ws vs (refused q n x i u) (unbuilt l b y j v) = absurd (never_both text y.script q y.is_script x)
  answers_once plain e f ws vs (refused q n x i u) (ran ss o k b y r c j v) = absurd (never_both text ss q y.is_script x)
  answers_once plain e f ws vs (refused q n x i u) (wrote_code ls b y j v) = absurd (never_both text y.script q y.is_script x)
  answers_once plain e f ws vs (unbuilt k a x i u) (refused r m y j v) = absurd (never_both text x.script r x.is_script y)
  answers_once plain e f ws vs (unbuilt k a x i u) (unbuilt l b y j v) = i ∙ one_line text k l x y ∙ sym j
  answers_once plain e f ws vs (unbuilt k a x i u) (ran ss o m b y r c j v) = absurd (not_both text k ss x y)
  answers_once plain e f ws vs (unbuilt k a x i u) (wrote_code ls b y j v) = absurd (run_or_code a b)
  answers_once plain e f ws vs (ran ss o k a x r c i u) (refused q n y j v) = absurd (never_both text ss q x.is_script y)
  answers_once plain e f ws vs (ran ss o k a x r c i u) (unbuilt l b y j v) = absurd (not_both text l ss y x)
  answers_once plain e f ws vs (ran ss o k a x r c i u) (ran zz p m b y q d j v) = i ∙ one_end ss zz o p x y r q ∙ sym j
  answers_once plain e f ws vs (ran ss o k a x r c i u) (wrote_code ls b y j v) = absurd (run_or_code a b)
  answers_once plain e f ws vs (wrote_code ls a x i u) (refused q n y j v) = absurd (never_both text x.script q x.is_script y)
  answers_once plain e f ws vs (wrote_code ls a x i u) (unbuilt l b y j v) = absurd (run_or_code b a)
  answers_once plain e f ws vs (wrote_code ls a x i u) (ran zz p m b y q d j v) = absurd (run_or_code b a)
  answers_once plain e f ws vs (wrote_code ls a x i u) (wrote_code ms b y j v) = i ∙ sym j

  -- and its run prints one output, whatever the log has
  no_prints : (b : Bool) (acts instructions depth : ℕ) → outs (totals b acts instructions depth) ≡ []
  no_prints true acts instructions depth = refl
  no_prints false acts instructions depth = refl

  last_of : Stms → Outcome Value World → List Write
  last_of ss o = last_writes (script_read a text prelude ss) a.steps o.ending

  prints : (events : Bool) → Stms → Outcome Value World → Pieces
  prints events ss o = outs (kept events o.written) ++ outs (last_of ss o)

  are_prints : (events stats : Bool) (ss : Stms) (o : Outcome Value World) (w : Work)
      → outs (all_writes (script_read a text prelude ss) a.steps events stats o w) ≡ prints events ss o
  unfolding prints last_of
  are_prints events stats ss o w =
      let told : List Write = totals stats o.units (min w.instructions (2 ^ 64 - 1)) w.depth in
      outs_append (kept events o.written) (told ++ last_of ss o)
      ∙ ap (λ q. outs (kept events o.written) ++ q)
      (outs_append told (last_of ss o)
      ∙ ap (λ q. q ++ outs (last_of ss o)) (no_prints stats o.units (min w.instructions (2 ^ 64 - 1)) w.depth))

  -- with a report, all events are told
  all_events : Option ReportKind → Bool
  all_events None = tells_events a
  all_events (Some k) = true

  script_prints : (r : Option ReportKind) (ss : Stms) (o : Outcome Value World) (w : Work) → outs (script_writes r a text prelude ss o w) ≡ prints (all_events r) ss o
  unfolding all_events
  script_prints None ss o w = are_prints (tells_events a) a.stats ss o w
  script_prints (Some k) ss o w = outs_reported k a ss (all_writes (script_read a text prelude ss) a.steps true true o w) ∙ are_prints true true ss o w

  one_output : (k : Option ReportKind) (ss zz : Stms) (o p : Outcome Value World) (w v : Work) → IsBuilt text ss → IsBuilt text zz → RunsTo prelude ss a.steps o
      → RunsTo prelude zz a.steps p → outs (script_writes k a text prelude ss o w) ≡ outs (script_writes k a text prelude zz p v)
  one_output k ss zz o p w v b c r q =
      let same : ss ≡ zz = one_script text ss zz b.is_script c.is_script in
      let ending : o ≡ p = one_ending prelude zz a.steps o p (subst (λ s. RunsTo prelude s a.steps o) same r) q in
      script_prints k ss o w ∙ (λ i. prints (all_events k) (same i) (ending i)) ∙ sym (script_prints k zz p v)

  -- and so with a summary behind it
  one_output_summed : (b : Bool) (k : Option ReportKind) (ss zz : Stms) (o p : Outcome Value World) (w v : Work) → IsBuilt text ss → IsBuilt text zz
      → RunsTo prelude ss a.steps o → RunsTo prelude zz a.steps p
      → outs (with_summary b a.steps o (script_writes k a text prelude ss o w)) ≡ outs (with_summary b a.steps p (script_writes k a text prelude zz p v))
  one_output_summed false k ss zz o p w v b c r q = one_output k ss zz o p w v b c r q
  one_output_summed true k ss zz o p w v b c r q =
      let same : ss ≡ zz = one_script text ss zz b.is_script c.is_script in
      let outcome : o ≡ p = one_ending prelude zz a.steps o p (subst (λ s. RunsTo prelude s a.steps o) same r) q in
      outs_append (script_writes k a text prelude ss o w) (summary (end_of a.steps o.ending) o.units (lines_in o))
      ∙ (λ i. one_output k ss zz o p w v b c r q i ++ outs (summary (end_of a.steps (outcome i).ending) (outcome i).units (lines_in (outcome i))))
      ∙ sym (outs_append (script_writes k a text prelude zz p v) (summary (end_of a.steps p.ending) p.units (lines_in p)))

  same_final : (e f : End) (ws vs : List Write) → e ≡ f → ws ≡ final e → vs ≡ final f → outs ws ≡ outs vs
  same_final e f ws vs same u v = ap outs (u ∙ ap final same ∙ sym v)

  prints_once : (e f : End) (ws vs : List Write) → is_run a.command ≡ true → IsAnswerOver prelude a text e ws → IsAnswerOver prelude a text f vs → outs ws ≡ outs vs
  prints_once e f ws vs runs (of_code r x) y = code_or_script (run_no_code a.command runs) r
  prints_once e f ws vs runs x (of_code r y) = code_or_script (run_no_code a.command runs) r
  prints_once e f ws vs runs (refused q n x i u) (refused r m y j v) = same_final e f ws vs (answers_once (run_no_code a.command runs) e f ws vs (refused q n x i u) (refused r m y j v)) u v
  prints_once e f ws vs runs (refused q n x i u) (unbuilt l b y j v) = absurd (never_both text y.script q y.is_script x)
  prints_once e f ws vs runs (refused q n x i u) (ran ss o k b y r c j v) = absurd (never_both text ss q y.is_script x)
  prints_once e f ws vs runs (unbuilt k b x i u) (refused r m y j v) = absurd (never_both text x.script r x.is_script y)
  prints_once e f ws vs runs (unbuilt k b x i u) (unbuilt l c y j v) = same_final e f ws vs (answers_once (run_no_code a.command runs) e f ws vs (unbuilt k b x i u) (unbuilt l c y j v)) u v
  prints_once e f ws vs runs (unbuilt k b x i u) (ran ss o m c y r d j v) = absurd (not_both text k ss x y)
  prints_once e f ws vs runs (ran ss o k b x r c i u) (refused q n y j v) = absurd (never_both text ss q x.is_script y)
  prints_once e f ws vs runs (ran ss o k b x r h i u) (unbuilt l c y j v) = absurd (not_both text l ss y x)
  prints_once e f ws vs runs (ran ss o k b x r h i u) (ran zz p m c y q d j v) = ap outs u ∙ one_output_summed (sums_up a.command) (report_kind a.command) ss zz o p k m x y r q ∙ sym (ap outs v)
  prints_once e f ws vs runs (wrote_code ls b x i u) y = absurd (run_or_code runs b)
  prints_once e f ws vs runs x (wrote_code ms b y j v) = absurd (run_or_code runs b)

-- two answers for a text are over one prelude, or both tell why there is none
one_no_prelude : (e f : End) → IsNoPrelude e → IsNoPrelude f → e ≡ f
one_no_prelude e f (refused_prelude q x i) (refused_prelude r y j) = i ∙ ap (λ r. end.Refused r) (one_refusal PRELUDE.now q r x y) ∙ sym j
one_no_prelude e f (refused_prelude q x i) (unbuilt_prelude l y j) = absurd (never_both PRELUDE.now y.script q y.is_script x)
one_no_prelude e f (unbuilt_prelude k x i) (refused_prelude r y j) = absurd (never_both PRELUDE.now x.script r x.is_script y)
one_no_prelude e f (unbuilt_prelude k x i) (unbuilt_prelude l y j) = i ∙ one_line PRELUDE.now k l x y ∙ sym j

no_prelude_or_one : (e : End) (prelude : Stms) → IsNoPrelude e → IsBuilt PRELUDE.now prelude → ⊥
no_prelude_or_one e prelude (refused_prelude q x i) is = never_both PRELUDE.now prelude q is.is_script x
no_prelude_or_one e prelude (unbuilt_prelude l x i) is = not_both PRELUDE.now l prelude x is

module _ (a : Asked) (text : Text) where
  pub over_one_prelude : (e f : End) (ws vs : List Write) → IsAnswerFor a text e ws → IsAnswerFor a text f vs → (P : Type 0) → (e ≡ f → ws ≡ vs → P)
      → ((prelude : Stms) → IsAnswerOver prelude a text e ws → IsAnswerOver prelude a text f vs → P) → P
  over_one_prelude e f ws vs (no_prelude n u) (no_prelude m v) P of_none of_both =
      let same : e ≡ f = one_no_prelude e f n m in of_none same (u ∙ ap final same ∙ sym v)
  over_one_prelude e f ws vs (no_prelude n u) (over prelude is y) P of_none of_both = absurd (no_prelude_or_one e prelude n is)
  over_one_prelude e f ws vs (over prelude is x) (no_prelude m v) P of_none of_both = absurd (no_prelude_or_one f prelude m is)
  over_one_prelude e f ws vs (over first is x) (over prelude same y) P of_none of_both =
      of_both prelude (subst (λ p. IsAnswerOver p a text e ws) (one_script PRELUDE.now first prelude is.is_script same.is_script) x) y

  pub script_says_one_end : (e f : End) → reads_code a.command ≡ false → IsEndFor a text e → IsEndFor a text f → e ≡ f
  script_says_one_end e f plain i j =
      over_one_prelude e f i.0 j.0 i.1 j.1 (e ≡ f) (λ same written. same) (λ prelude x y. answers_once prelude a text plain e f i.0 j.0 x y)

  pub text_prints_once : (e f : End) (ws vs : List Write) → is_run a.command ≡ true → IsAnswerFor a text e ws → IsAnswerFor a text f vs → outs ws ≡ outs vs
  text_prints_once e f ws vs runs x y =
      over_one_prelude e f ws vs x y (outs ws ≡ outs vs) (λ same written. ap outs written) (λ prelude x y. prints_once prelude a text e f ws vs runs x y)
