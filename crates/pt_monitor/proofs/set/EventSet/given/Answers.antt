use Rattle.std.proofs.Common.{ℕ, ◌∙◌, ap, sym}
use Rattle.sem_run.specs.run.Tools.{has}
use Rattle.pt_monitor.specs.Events.{bit_of}
use Rattle.pt_monitor.proofs.Bits.{given-no_call}
use Rattle.pt_monitor.proofs.set.EventSet.given.Goals as goal

pub returns-else-has : goal.returns-else-has
returns-else-has c =
    λ e. ap (λ (n : ℕ). has n (bit_of e)) (c.intersection.ensures tt) ∙ given-no_call c.args.self.0 e (sym c.has.ensures ∙ c.if-has.false)
