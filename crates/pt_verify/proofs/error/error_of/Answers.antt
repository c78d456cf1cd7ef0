use Rattle.std.proofs.Common.{sym, subst, arith}
use Rattle.pt_verify.specs.Verdict.{IsRefused}
use Rattle.pt_verify.proofs.ErrorLemmas.{is_refused}
use Rattle.pt_verify.proofs.error.error_of.Goals as goal

pub returns-in-Ok-Ok : goal.returns-in-Ok-Ok
returns-in-Ok-Ok c = λ code h.
    subst (IsRefused code) (sym c.placed.ensures) (is_refused code c.args.block c.args.refusal c.in-Ok-Ok.block c.in-Ok-Ok.place
    (omega (arith, c.in-Ok-Ok.ensures)) (omega (arith, c.in-Ok-Ok.ensures, c.place_of.ensures)) h)
