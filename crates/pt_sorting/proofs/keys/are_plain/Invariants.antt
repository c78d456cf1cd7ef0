use Rattle.std.proofs.Common.{◌≡◌, drop}
use Rattle.pt_sorting.specs.Keys.{are_plain}
use Rattle.pt_sorting.proofs.keys.are_plain.Given as goal

abbrev pub invariant-loop-value : goal.invariant-loop-value
invariant-loop-value l = are_plain l.heap (drop l.value-index l.values) ≡ are_plain l.heap l.values
