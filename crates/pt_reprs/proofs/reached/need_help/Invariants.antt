use Rattle.std.proofs.Common.{◌≡◌, drop}
use Rattle.pt_reprs.specs.Reached.{need_help}
use Rattle.pt_reprs.proofs.reached.need_help.Given as goal

abbrev pub invariant-loop-value : goal.invariant-loop-value
invariant-loop-value l = need_help l.heap (drop l.value-index l.values) ≡ need_help l.heap l.values
