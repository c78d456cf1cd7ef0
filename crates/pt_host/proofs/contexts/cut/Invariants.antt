use Rattle.std.proofs.Common.{◌≡◌, ◌-◌, length}
use Rattle.pt_host.specs.Errors.{cut_within}
use Rattle.pt_host.proofs.contexts.cut.Given as goal

abbrev pub invariant-loop-step : goal.invariant-loop-step
invariant-loop-step l = record {
  heap : l.heap ≡ l.fn.heap;
  cut : cut_within l.fn.heap (length l.fn.heap - l._step) l.back l.at ≡ cut_within l.fn.heap (length l.fn.heap) l.back l.fn.from;
}
