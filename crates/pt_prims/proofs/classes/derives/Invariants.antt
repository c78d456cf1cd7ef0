use Rattle.std.proofs.Common.{◌≡◌, ◌+◌, ◌-◌}
use Rattle.pt_prims.specs.Classes.{derives_within}
use Rattle.pt_prims.proofs.classes.derives.Given as goal

abbrev pub invariant-loop-step : goal.invariant-loop-step
invariant-loop-step l = derives_within l.heap (l.fn.class.0 + 1 - l._step) l.from.0 l.at.0 ≡ derives_within l.heap (l.fn.class.0 + 1) l.from.0 l.fn.class.0
