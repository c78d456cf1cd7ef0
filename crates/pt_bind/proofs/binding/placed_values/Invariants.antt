use Rattle.std.proofs.Common.{◌≡◌, take, map, Some}
use Rattle.pt_bind.proofs.binding.placed_values.Given as goal

abbrev pub invariant-loop-value : goal.invariant-loop-value
invariant-loop-value l = l.values ≡ map Some (take l.value-index l.value-items)
