use Rattle.std.proofs.Common.{◌∙◌, ap}
use Rattle.std.proofs.lemmas.Int.{to_z-of_z}
use Rattle.std.specs.Int.{w128}
use Rattle.pt_monitor.specs.Events.{listed}
use Rattle.pt_monitor.proofs.Bits.{of_none, of_listed}
use Rattle.pt_monitor.proofs.event.MonEvent.of_bits.Goals as goal

pub returns-in_default : goal.returns-in_default
returns-in_default c = of_none c.args.bits (c.in_default.ensures ∙ ap listed (to_z-of_z w128 c.args.bits c.ranges.bits))

pub returns : goal.returns
returns c = of_listed c.args.bits c.in-Some.set.0 _ (c.in-Some.ensures ∙ ap listed (to_z-of_z w128 c.args.bits c.ranges.bits)) c.only_event.ensures
