use Rattle.std.proofs.Common.{sym, subst}
use Rattle.pt_refusals.specs.Laws.{TellsPlace}
use Rattle.pt_refusals.proofs.Placing.{places_are_told}
use Rattle.pt_verify.proofs.ProbeLemmas.{its_lists}
use Rattle.pt_verify.proofs.probe.BlockProbeProbe.refusal_at.Goals as goal

pub returns : goal.returns
returns c = λ b t. subst (TellsPlace b c.args.place) (sym c.refusal_at.ensures)
    (places_are_told b (its_lists c.args.self.now b t) c.args.place c.in_ok-failures.failures (c.in_ok-failures.ensures b t c.requires))
