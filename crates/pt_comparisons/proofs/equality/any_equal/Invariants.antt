use Rattle.std.proofs.Common.{◌≡◌, drop}
use Rattle.pt_comparisons.specs.Equalities.{any_equal}
use Rattle.pt_comparisons.proofs.equality.any_equal.Given as goal

abbrev pub invariant-loop-value : goal.invariant-loop-value
invariant-loop-value l = any_equal l.heap l.sought (drop l.value-index l.values) ≡ any_equal l.heap l.sought l.values
