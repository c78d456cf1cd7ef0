use Rattle.std.proofs.Common.{sym, subst}
use Rattle.pt_base.specs.Failures.{IfRefused}
use Rattle.sem_fits.specs.fits.Fits.{AllFit}
use Rattle.pt_prog.specs.Answer.{IsBadFile, IsFileOf, IsMisfitOf, IsNoFile, misfits, no_file}
use Rattle.pt_prog.specs.declared.end.CodeRefusal.TheVariants as refusal
use Rattle.pt_prog.proofs.exec.verified_code.Goals as goal

pub returns-in-Err-Refused-clause-err : goal.returns-in-Err-Refused-clause-err
returns-in-Err-Refused-clause-err c =
    subst (IfRefused (IsBadFile c.args.bytes.now)) (sym c.no_code.ensures) (subst (λ e. IsBadFile c.args.bytes.now (refusal.Format e)) (sym c.in-Err-Refused.error-is) (no_file _ (subst (IfRefused (IsNoFile c.args.bytes.now)) c.in-Err-Refused.field-0-is c.in-Err-Refused.ensures.err)))

pub returns-in-Ok-fitting-clause-ok : goal.returns-in-Ok-fitting-clause-ok
returns-in-Ok-fitting-clause-ok c =
    let e = c.in-Ok-fitting.ensures.ok in
    record { is_file = subst (IsFileOf c.args.bytes.now) (sym e.0) c.in-Ok.ensures.ok; fits = subst AllFit (sym e.0) e.1 }

pub returns-in-Err-Refused-fitting-clause-err : goal.returns-in-Err-Refused-fitting-clause-err
returns-in-Err-Refused-fitting-clause-err c =
    misfits c.in-Err-Refused-fitting.error (record {
      code = c.in-Ok.code;
      is_file = c.in-Ok.ensures.ok;
      misfits = subst (IfRefused (IsMisfitOf c.in-Ok.code)) c.in-Err-Refused-fitting.field-0-is c.in-Err-Refused-fitting.ensures.err;
    })
