-- The bytes of a code file have one answer over a prelude.
use Rattle.std.proofs.Common.{◌≡◌, ◌∙◌, List, Result, Ok, Err, sym, ap, subst}
use Rattle.pt_base.specs.declared.numbers.Line.{Line}
use Rattle.pt_tree.specs.Syntax.{Stms}
use Rattle.sem_run.specs.run.Run.{Write}
use Rattle.pt_bare_runs.specs.Strides.{Outcome}
use Rattle.pt_heap.specs.declared.value.Value.{Value}
use Rattle.sem_rows.specs.pt_host.World.{World}
use Rattle.pt_code.specs.declared.Code.{Code}
use Rattle.law_typed_pieces.specs.law_operands.law_files.sem_compile.compile.ScriptCode.{code_of}
use Rattle.pt_code.specs.declared.refusing.CodeErr.{CodeErr}
use Rattle.pt_code.specs.File.{file}
use Rattle.pt_code.specs.Refusals.{answer, told}
use Rattle.pt_code.proofs.BlockLaws.{code_again}
use Rattle.pt_code.proofs.Whole.{one_file}
use Rattle.sem_fits.specs.fits.Fits.{AllFit}
use Rattle.pt_verify.specs.declared.error.VerifyErr.{VerifyErr}
use Rattle.pt_verify.specs.Verdict.{IsRefused}
use Rattle.pt_verify.proofs.LawLemmas.{fitting_is_unrefused}
use Rattle.pt_supported_code.specs.Built.{BuiltCode, IsUnbuiltCode}
use Rattle.pt_prog.specs.pt_run_script.pt_run_code.pt_runner.Work.{Work}
use Rattle.pt_prog.specs.pt_run_script.pt_run_code.law_loading.code_program.Laws.{IsRunnable}
use Rattle.pt_prog.specs.pt_run_script.pt_run_code.CodeRun.{CodeRunsTo}
use Rattle.law_program.specs.code_ends.Laws.{IsVerified}
use Rattle.law_program.proofs.code_ends.Ends.{runs_to_one_outcome}
use Rattle.pt_words.specs.Words.{Asked}
use Rattle.pt_prog.specs.declared.end.CodeRefusal.{CodeRefusal}
use Rattle.pt_prog.specs.declared.end.CodeRefusal.TheVariants as refusal
use Rattle.pt_prog.specs.declared.end.End.{End}
use Rattle.pt_prog.specs.declared.end.End.TheVariants as end
use Rattle.pt_prog.specs.LogText.{Text, final}
use Rattle.pt_prog.specs.Answer.{IsBadFile, IsCodeAnswer, IsFileOf, IsMisfit, IsNoFile, IsRunnableFile, IsUnbuiltFile}
use Rattle.pt_prog.specs.Answer.{bad_code, code_read, end_of, misfits, no_file, ran_code, run_writes, unbuilt_code}
use Rattle.law_program.proofs.exec_answers.CodeRefusals.{one_line, one_refusal}

same_error : (d e : CodeErr) (r : Result Code CodeErr) → r ≡ Err d → r ≡ Err e → d ≡ e
same_error d e r x y = cc

code_or_error : (c : Code) (e : CodeErr) (r : Result Code CodeErr) → r ≡ Ok c → r ≡ Err e → ⊥
code_or_error c e r x y = cc

verified : (c : Code) → IsRunnable c → IsVerified c
verified c x = record { has_file = x.has_file; fit = x.fit }

module _ (bytes : Text) where
  pub one_code : (c d : Code) → IsFileOf bytes c → IsFileOf bytes d → c ≡ d
  one_code c d x y = one_file c d x.has_file y.has_file (sym x.is_file ∙ y.is_file)

  pub its_file : (c : Code) → IsRunnableFile bytes c → IsFileOf bytes c
  its_file c x = record { is_file = x.is_file; has_file = x.is_runnable.has_file }

  is_read : (c : Code) → IsFileOf bytes c → answer bytes ≡ Ok c
  unfolding answer
  is_read c x = ap answer x.is_file ∙ ap (told (file c)) (code_again c x.has_file)

  file_or_none : (c : Code) (error : CodeErr) → IsFileOf bytes c → IsNoFile bytes error → ⊥
  file_or_none c error x y = code_or_error c error (answer bytes) (is_read c x) y.is_answer

  -- one reason why it isn't run
  one_misfit : (d e : VerifyErr) → IsMisfit bytes d → IsMisfit bytes e → d ≡ e
  one_misfit d e x y =
      let same : y.code ≡ x.code = one_code y.code x.code y.is_file x.is_file in
      one_refusal x.code x.is_file.has_file d e x.misfits.is_refused (subst (λ c. IsRefused c e) same y.misfits.is_refused)
      x.misfits.in_memory y.misfits.in_memory

  one_reason : (d e : CodeRefusal) → IsBadFile bytes d → IsBadFile bytes e → d ≡ e
  one_reason _ _ (no_file d x) (no_file e y) = ap (λ r. refusal.Format r) (same_error d e (answer bytes) x.is_answer y.is_answer)
  one_reason _ _ (no_file d x) (misfits e y) = absurd (file_or_none y.code d y.is_file x)
  one_reason _ _ (misfits d x) (no_file e y) = absurd (file_or_none x.code e x.is_file y)
  one_reason _ _ (misfits d x) (misfits e y) = ap (λ r. refusal.Misfit r) (one_misfit d e x y)

  pub fits_or_bad : (c : Code) → IsFileOf bytes c → AllFit c → (error : CodeRefusal) → IsBadFile bytes error → ⊥
  fits_or_bad c x fit _ (no_file error y) = file_or_none c error x y
  fits_or_bad c x fit _ (misfits error y) =
      let same : y.code ≡ c = one_code y.code c y.is_file x in
      y.misfits.in_memory (fitting_is_unrefused c x.has_file fit error (subst (λ d. IsRefused d error) same y.misfits.is_refused))

  -- one line of what isn't supported
  one_first_line : (k l : Line) → IsUnbuiltFile bytes k → IsUnbuiltFile bytes l → k ≡ l
  one_first_line k l x y =
      let same : y.code ≡ x.code = one_code y.code x.code y.is_file x.is_file in
      one_line x.code k l x.is_first (subst (λ c. IsUnbuiltCode c l) same y.is_first)

  pub built_or_unbuilt : (c : Code) → IsFileOf bytes c → BuiltCode c → (line : Line) → IsUnbuiltFile bytes line → ⊥
  built_or_unbuilt c x built line y =
      let all : BuiltCode y.code = subst BuiltCode (one_code c y.code x y.is_file) built in
      y.is_first.unbuilt (all y.is_first.number y.is_first.block y.is_first.is)

  module _ (prelude : Stms) (a : Asked) where
    one_run : (c d : Code) (o p : Outcome Value World) (k l : Work) → IsRunnable (code_of prelude) → IsRunnableFile bytes c → IsRunnableFile bytes d
        → CodeRunsTo (code_of prelude) c a.steps o k → CodeRunsTo (code_of prelude) d a.steps p l → (o ≡ p) × (k ≡ l)
    one_run c d o p k l ready x y r q =
        let same : d ≡ c = one_code d c (its_file d y) (its_file c x) in
        runs_to_one_outcome (code_of prelude) c (verified (code_of prelude) ready) (verified c x.is_runnable) a.steps o p k l r
        (subst (λ z. CodeRunsTo (code_of prelude) z a.steps p l) same q)

    same_final : (e f : End) (ws vs : List Write) → e ≡ f → ws ≡ final e → vs ≡ final f → (e ≡ f) × (ws ≡ vs)
    same_final e f ws vs same u v = (same, u ∙ (ap final same ∙ sym v))

    pub answers_once : (e f : End) (ws vs : List Write) → IsCodeAnswer prelude a bytes e ws → IsCodeAnswer prelude a bytes f vs → (e ≡ f) × (ws ≡ vs)
    answers_once e f ws vs (bad_code d x i u) (bad_code q y j v) =
        same_final e f ws vs (i ∙ (ap (λ r. end.BadCode r) (one_reason d q x y) ∙ sym j)) u v
    answers_once e f ws vs (bad_code d x i u) (unbuilt_code l y j v) = absurd (fits_or_bad y.code y.is_file y.fits d x)
    answers_once e f ws vs (bad_code d x i u) (ran_code c o k ready y r j v) = absurd (fits_or_bad c (its_file c y) y.is_runnable.fit d x)
    answers_once e f ws vs (unbuilt_code k x i u) (bad_code q y j v) = absurd (fits_or_bad x.code x.is_file x.fits q y)
    answers_once e f ws vs (unbuilt_code k x i u) (unbuilt_code l y j v) =
        same_final e f ws vs (i ∙ (ap (λ z. end.Unbuilt z) (one_first_line k l x y) ∙ sym j)) u v
    answers_once e f ws vs (unbuilt_code l x i u) (ran_code c o k ready y r j v) = absurd (built_or_unbuilt c (its_file c y) y.is_runnable.built l x)
    answers_once e f ws vs (ran_code c o k ready x r i u) (bad_code q y j v) = absurd (fits_or_bad c (its_file c x) x.is_runnable.fit q y)
    answers_once e f ws vs (ran_code c o k ready x r i u) (unbuilt_code l y j v) = absurd (built_or_unbuilt c (its_file c x) x.is_runnable.built l y)
    answers_once e f ws vs (ran_code c o k ready x r i u) (ran_code d p l too y q j v) =
        let same = one_run c d o p k l ready x y r q in
        let read : c ≡ d = one_code c d (its_file c x) (its_file d y) in (
          i ∙ (ap (λ z. end_of a.steps z.ending) same.0 ∙ sym j),
          u ∙ ((λ m. run_writes (code_read a (code_of prelude) (read m)) a (same.0 m) (same.1 m)) ∙ sym v),
        )
