use Rattle.std.proofs.Common.{ℕ, ◌∙◌, ap}
use Rattle.sem_run.specs.run.Tools.{gives}
use Rattle.pt_monitor.specs.Events.{bit_of}
use Rattle.pt_monitor.specs.Kept.{block, can_be_due, local_sets, callbacks_of}
use Rattle.pt_monitor.proofs.Keeping.{wanted_is}
use Rattle.pt_monitor.proofs.tool.Tool.wanted.Goals as goal

pub returns : goal.returns
returns c =
    λ e. wanted_is (block c.args.block.0) (bit_of e)
    (record { name = c.self.inside.name; set = c.self.inside.set.0; local = local_sets c.self.inside.local.entries; callbacks = callbacks_of c.self.inside.callbacks.entries })
    c.intersection.result.0 c.union.result.0 c.given.result.0 c.given-2.result.0 c.self.inside.registered.0 (c.intersection.ensures tt) (c.union.ensures tt)
    (c.given.ensures e) (c.given-2.ensures e ∙ ap (λ (n : ℕ). gives n (bit_of e)) c.local_of-local.ensures) (c.self.invariant e)
    ∙ ap (can_be_due (block c.args.block.0) (bit_of e)) c.self.view_is
