use Rattle.std.proofs.Common.{ℕ, ◌∙◌, ap, bit_or}
use Rattle.sem_run.specs.run.Tools.{has}
use Rattle.pt_monitor.specs.Events.{bit_of}
use Rattle.pt_monitor.specs.Kept.{callbacks_of}
use Rattle.pt_monitor.proofs.Keeping.{has_with}
use Rattle.pt_monitor.proofs.tool.Tool.register.Goals as goal

pub invariant_of-self-in-Some : goal.invariant_of-self-in-Some
invariant_of-self-in-Some c =
    λ e. ap (λ (n : ℕ). has n (bit_of e)) (c.insert.ensures tt ∙ ap (bit_or c.self.inside.registered.0) c.flag.ensures)
    ∙ has_with c.self.inside.registered.0 (callbacks_of c.self.inside.callbacks.entries) (callbacks_of c.put_callback.new.callbacks.entries) c.args.event
    c.in-Some.f c.self.invariant c.in_ok-put_callback-in-Some.ensures.ok e
