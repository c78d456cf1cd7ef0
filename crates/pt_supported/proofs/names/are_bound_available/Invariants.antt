use Rattle.std.proofs.Common.{◌≡◌, drop}
use Rattle.pt_supported.specs.Built.{are_bound_available}
use Rattle.pt_supported.proofs.names.are_bound_available.Given as goal

abbrev pub invariant-loop-alias : goal.invariant-loop-alias
invariant-loop-alias l = are_bound_available (drop l.alias-index l.names) ≡ are_bound_available l.names
