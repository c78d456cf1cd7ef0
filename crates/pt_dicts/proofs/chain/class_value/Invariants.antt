use Rattle.std.proofs.Common.{◌≡◌, ◌+◌, ◌-◌}
use Rattle.pt_dicts.specs.Chain.{found_along}
use Rattle.pt_dicts.proofs.chain.class_value.Given as goal

abbrev pub invariant-loop-step : goal.invariant-loop-step
invariant-loop-step l = found_along l.heap (l.fn.class.0 + 1 - l._step) l.key l.at.0 ≡ found_along l.heap (l.fn.class.0 + 1) l.key l.fn.class.0
