use Rattle.std.proofs.Common.{inl, refl, subst, arith}
use Rattle.pt_base.specs.Failures.{IfRefused}
use Rattle.pt_sinks.proofs.WritingLemmas.{took_nothing}
use Rattle.pt_tree.specs.StatementFold.{script_of}
use Rattle.pt_words.specs.Asked.{asked}
use Rattle.pt_prog.specs.LogText.{final}
use Rattle.pt_prog.specs.Answer.{IsBadFile, bad_code, of_code}
use Rattle.pt_prog.specs.declared.end.End.TheVariants as end
use Rattle.pt_prog.proofs.RunLemmas.{every_err_of, every_ok_of}
use Rattle.pt_prog.proofs.exec.exec_file.Goals as goal

pub run_verified-requires-clause-is_prelude : goal.run_verified-requires-clause-is_prelude
run_verified-requires-clause-is_prelude g c = c.requires.is_prelude

pub run_verified-requires-clause-verified : goal.run_verified-requires-clause-verified
run_verified-requires-clause-verified g c = c.in-Ok.ensures.ok

pub run_verified-requires-clause-reads : goal.run_verified-requires-clause-reads
run_verified-requires-clause-reads g c = c.requires.reads

pub returns-in-Ok-clause-ok : goal.returns-in-Ok-clause-ok
returns-in-Ok-clause-ok g c = c.run_verified.ensures.ok

pub returns-in-Ok-clause-err : goal.returns-in-Ok-clause-err
returns-in-Ok-clause-err g c = c.run_verified.ensures.err

pub returns-in-Ok-clause-out_failed : goal.returns-in-Ok-clause-out_failed
returns-in-Ok-clause-out_failed g c = c.run_verified.ensures.out_failed

pub returns-in-Ok-clause-log_failed : goal.returns-in-Ok-clause-log_failed
returns-in-Ok-clause-log_failed g c = c.run_verified.ensures.log_failed

pub returns-in-Ok-clause-most : goal.returns-in-Ok-clause-most
returns-in-Ok-clause-most g c = c.run_verified.ensures.most

pub returns-in-Ok-clause-later : goal.returns-in-Ok-clause-later
returns-in-Ok-clause-later g c = c.run_verified.ensures.later

pub returns-in-Err-Refused-clause-ok : goal.returns-in-Err-Refused-clause-ok
returns-in-Err-Refused-clause-ok g c =
    every_ok_of (script_of c.args.prelude.now) (asked c.args.line.now) c.args.bytes.now _ _ _ _ c.write_final.result (final (end.BadCode c.in-Err-Refused.error)) (end.BadCode c.in-Err-Refused.error)
    (of_code c.requires.reads
    (bad_code c.in-Err-Refused.error (subst (IfRefused (IsBadFile c.args.bytes.now)) c.in-Err-Refused.field-0-is c.in-Err-Refused.ensures.err) refl refl))
    c.write_final.ensures.ok

pub returns-in-Err-Refused-clause-err : goal.returns-in-Err-Refused-clause-err
returns-in-Err-Refused-clause-err g c =
    every_err_of (script_of c.args.prelude.now) (asked c.args.line.now) c.args.bytes.now _ _ _ _ c.write_final.result (final (end.BadCode c.in-Err-Refused.error)) (end.BadCode c.in-Err-Refused.error)
    (of_code c.requires.reads
    (bad_code c.in-Err-Refused.error (subst (IfRefused (IsBadFile c.args.bytes.now)) c.in-Err-Refused.field-0-is c.in-Err-Refused.ensures.err) refl refl))
    c.write_final.ensures.err

pub returns-in-Err-Refused-clause-out_failed : goal.returns-in-Err-Refused-clause-out_failed
returns-in-Err-Refused-clause-out_failed g c = c.write_final.ensures.out_failed

pub returns-in-Err-Refused-clause-log_failed : goal.returns-in-Err-Refused-clause-log_failed
returns-in-Err-Refused-clause-log_failed g c = c.write_final.ensures.log_failed

pub returns-in-Err-Refused-clause-most : goal.returns-in-Err-Refused-clause-most
returns-in-Err-Refused-clause-most g c = c.write_final.ensures.most

pub returns-in-Err-Refused-clause-later : goal.returns-in-Err-Refused-clause-later
returns-in-Err-Refused-clause-later g c = c.write_final.ensures.later

pub returns-in-Err-Memory-clause-err : goal.returns-in-Err-Memory-clause-err
returns-in-Err-Memory-clause-err g c = inl (took_nothing _ _ _ _ (λ x y t. t) (λ x y t. t))

pub returns-in-Err-Memory-clause-out_failed : goal.returns-in-Err-Memory-clause-out_failed
returns-in-Err-Memory-clause-out_failed g c e = absurd (cc)

pub returns-in-Err-Memory-clause-log_failed : goal.returns-in-Err-Memory-clause-log_failed
returns-in-Err-Memory-clause-log_failed g c e = absurd (cc)

pub returns-in-Err-Memory-clause-most : goal.returns-in-Err-Memory-clause-most
returns-in-Err-Memory-clause-most g c = (refl, refl)

pub returns-in-Err-Memory-clause-later : goal.returns-in-Err-Memory-clause-later
returns-in-Err-Memory-clause-later g c = (omega arith, omega arith)
