use Rattle.std.proofs.Common.{◌∙◌, Option, ap, sym}
use Rattle.pt_ranges.specs.declared.handlers.Handler.{Handler}
use Rattle.pt_unwind.proofs.LandingLemmas.{landing_at, landing_among-found}
use Rattle.pt_unwind.proofs.land_among.Goals as goal

pub returns-in-Some : goal.returns-in-Some
returns-in-Some c =
    c.enter.ensures ∙ sym (landing_among-found c.args.rows.now c.args.pc c.args.how ∙ ap (λ (o : Option Handler). landing_at o c.args.pc c.args.how) (sym c.in-Some.ensures))

pub returns-in-None : goal.returns-in-None
returns-in-None c =
    c.pass.ensures ∙ sym (landing_among-found c.args.rows.now c.args.pc c.args.how ∙ ap (λ (o : Option Handler). landing_at o c.args.pc c.args.how) (sym c.in-None.ensures))
