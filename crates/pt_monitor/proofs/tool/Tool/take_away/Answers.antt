use Rattle.std.proofs.Common.{ℕ, ◌∙◌, ap}
use Rattle.bitflags.specs.Sets.{without}
use Rattle.sem_run.specs.run.Tools.{has}
use Rattle.pt_monitor.specs.Events.{bit_of}
use Rattle.pt_monitor.specs.Kept.{callbacks_of}
use Rattle.pt_monitor.proofs.Keeping.{has_without}
use Rattle.pt_monitor.proofs.tool.Tool.take_away.Goals as goal

pub invariant_of-self : goal.invariant_of-self
invariant_of-self c =
    λ e. ap (λ (n : ℕ). has n (bit_of e)) (c.remove.ensures tt ∙ ap (without 32 c.self.inside.registered.0) c.flag.ensures)
    ∙ has_without c.self.inside.registered.0 (callbacks_of c.self.inside.callbacks.entries) (callbacks_of c.drop_callback.new.callbacks.entries) c.args.event
    c.self.invariant c.drop_callback.ensures e
