use Rattle.std.proofs.Common.{ℕ, nat_eq, ◌∙◌, ap, sym}
use Rattle.std.specs.Map.{lookup}
use Rattle.pt_monitor.specs.Events.{bit_of}
use Rattle.pt_monitor.proofs.Keeping.{callback_at}
use Rattle.pt_monitor.proofs.maps.callback_for.Goals as goal

pub returns-in-Some : goal.returns-in-Some
returns-in-Some c =
    c.in-Some.ensures.value ∙ ap (λ (n : ℕ). lookup (nat_eq n) c.args.callbacks.now.entries) c.bit.ensures
    ∙ sym (callback_at (bit_of c.args.event) c.args.callbacks.now.entries)

pub returns-in-None : goal.returns-in-None
returns-in-None c =
    c.in-None.ensures.value ∙ ap (λ (n : ℕ). lookup (nat_eq n) c.args.callbacks.now.entries) c.bit.ensures
    ∙ sym (callback_at (bit_of c.args.event) c.args.callbacks.now.entries)
