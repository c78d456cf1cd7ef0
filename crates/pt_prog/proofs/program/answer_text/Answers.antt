use Rattle.std.proofs.Common.{rules, ◌≡◌, ◌∙◌, ◌∷◌, [], ap, refl, string_bytes, subst, sym, true≢false}
use Rattle.pt_base.specs.Failures.{IfRefused}
use Rattle.law_files.specs.sem_compile.compile.ScriptCode.{code_of}
use Rattle.pt_front.specs.Text.{IsRefused}
use Rattle.pt_listing.specs.Listing.{IsListing}
use Rattle.sem_run.specs.run.Run.{to_out, write}
use Rattle.pt_tree.specs.StatementFold.{script_of}
use Rattle.pt_words.specs.Asked.{asked}
use Rattle.pt_prog.specs.LogText.{final}
use Rattle.pt_prog.specs.Answer.{is_run, wrote_code, of_answer, refused}
use Rattle.pt_prog.specs.Limits.{reads_code}
use Rattle.pt_prog.specs.declared.end.End.TheVariants as end
use Rattle.pt_prog.proofs.ListingLemmas.{by_build, by_dis}
use Rattle.pt_prog.proofs.RunLemmas.{every_err, every_err_of, every_ok_of}
use Rattle.pt_prog.proofs.program.answer_text.Goals as goal

pub returns-in-Err-Refused-clause-ok : goal.returns-in-Err-Refused-clause-ok
returns-in-Err-Refused-clause-ok g c =
    every_ok_of (script_of c.args.prelude.now) (asked c.args.line.now) c.args.text.now _ _ _ _ c.write_final.result (final (end.Refused c.in-Err-Refused.error)) (end.Refused c.in-Err-Refused.error)
    (refused c.in-Err-Refused.error c.requires.reads (subst (IfRefused (IsRefused c.args.text.now)) c.in-Err-Refused.field-0-is c.in-Err-Refused.ensures) refl refl) c.write_final.ensures.ok

pub returns-in-Err-Refused-clause-err : goal.returns-in-Err-Refused-clause-err
returns-in-Err-Refused-clause-err g c =
    every_err_of (script_of c.args.prelude.now) (asked c.args.line.now) c.args.text.now _ _ _ _ c.write_final.result (final (end.Refused c.in-Err-Refused.error)) (end.Refused c.in-Err-Refused.error)
    (refused c.in-Err-Refused.error c.requires.reads (subst (IfRefused (IsRefused c.args.text.now)) c.in-Err-Refused.field-0-is c.in-Err-Refused.ensures) refl refl) c.write_final.ensures.err

pub returns-in_err-put-in-Dis-clause-err : goal.returns-in_err-put-in-Dis-clause-err
returns-in_err-put-in-Dis-clause-err g c =
    let same : string_bytes c.in_ok-lines-in-Dis.lines ≡ c.as_bytes.result.now = search rules in
    every_err (script_of c.args.prelude.now) (asked c.args.line.now) c.args.text.now _ _ _ _ c.from_residual-in_err-put-in-Dis.result _ c.from_residual-in_err-put-in-Dis.ensures
    (of_answer end.Done (write to_out c.as_bytes.result.now ∷ [])
    (wrote_code c.as_bytes.result.now (ap is_run c.in-Dis.is)
    (by_dis c.args.line.now.command c.args.text.now c.as_bytes.result.now (script_of c.in-Ok.script) c.in-Ok.ensures.is_script c.in-Dis.is
    (subst (IsListing (code_of (script_of c.in-Ok.script))) same c.in_ok-lines-in-Dis.ensures)) refl refl)
    c.in_err-put-in-Dis.ensures.err)

pub returns-in-Dis-clause-ok : goal.returns-in-Dis-clause-ok
returns-in-Dis-clause-ok g c =
    let same : string_bytes c.in_ok-lines-in-Dis.lines ≡ c.as_bytes.result.now = search rules in
    record {
      writes = write to_out c.as_bytes.result.now ∷ [];
      is_answer = wrote_code c.as_bytes.result.now (ap is_run c.in-Dis.is)
          (by_dis c.args.line.now.command c.args.text.now c.as_bytes.result.now (script_of c.in-Ok.script) c.in-Ok.ensures.is_script c.in-Dis.is
          (subst (IsListing (code_of (script_of c.in-Ok.script))) same c.in_ok-lines-in-Dis.ensures)) refl refl;
      took = c.in_ok-put-in-Dis.ensures.ok;
    }

pub returns-in_err-put-in-Build-clause-err : goal.returns-in_err-put-in-Build-clause-err
returns-in_err-put-in-Build-clause-err g c =
    every_err (script_of c.args.prelude.now) (asked c.args.line.now) c.args.text.now _ _ _ _ c.from_residual-in_err-put-in-Build.result _ c.from_residual-in_err-put-in-Build.ensures
    (of_answer end.Done (write to_out c.as_slice.result.now ∷ [])
    (wrote_code c.as_slice.result.now (ap is_run c.in-Build.is)
    (by_build c.args.line.now.command c.args.text.now c.as_slice.result.now (script_of c.in-Ok.script) c.in-Ok.ensures.is_script c.in-Build.is
    (search rules)) refl refl)
    c.in_err-put-in-Build.ensures.err)

pub returns-in-Build-clause-ok : goal.returns-in-Build-clause-ok
returns-in-Build-clause-ok g c =
    record {
      writes = write to_out c.as_slice.result.now ∷ [];
      is_answer = wrote_code c.as_slice.result.now (ap is_run c.in-Build.is)
          (by_build c.args.line.now.command c.args.text.now c.as_slice.result.now (script_of c.in-Ok.script) c.in-Ok.ensures.is_script c.in-Build.is
          (search rules)) refl refl;
      took = c.in_ok-put-in-Build.ensures.ok;
    }

pub unreachable-requires : goal.unreachable-requires
unreachable-requires g c = true≢false (sym (ap reads_code c.in-Exec.is) ∙ c.requires.reads)
