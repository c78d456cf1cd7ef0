use Rattle.std.proofs.Common.{◌∙◌, ap, sym}
use Rattle.pt_unwind.proofs.LandingLemmas.{taking}
use Rattle.pt_landings.proofs.TakingLemmas.{for_none, for_return}
use Rattle.pt_landings.proofs.taking.Goals as goal

pub returns-in-Normal : goal.returns-in-Normal
returns-in-Normal c = for_none c.args.handlers.now c.args.pc ∙ ap (λ how. taking c.args.handlers.now c.args.pc how) (sym c.in-Normal.is)

pub returns-in-Return : goal.returns-in-Return
returns-in-Return c =
    c.for_return.ensures
    ∙ for_return c.args.handlers.now c.args.pc c.in-Return.field-0
    ∙ ap (λ how. taking c.args.handlers.now c.args.pc how) (sym c.in-Return.is)
