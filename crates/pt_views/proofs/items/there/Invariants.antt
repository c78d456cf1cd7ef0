use Rattle.std.proofs.Common.{◌≡◌, ◌++◌, drop}
use Rattle.pt_views.specs.Unpacking.{there}
use Rattle.pt_views.proofs.items.there.Given as goal

abbrev pub invariant-loop-value : goal.invariant-loop-value
invariant-loop-value l = l.items ++ there (drop l.value-index l.values) ≡ there l.values
