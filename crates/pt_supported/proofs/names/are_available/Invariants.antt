use Rattle.std.proofs.Common.{◌≡◌, drop}
use Rattle.pt_supported.specs.Built.{are_available}
use Rattle.pt_supported.proofs.names.are_available.Given as goal

abbrev pub invariant-loop-name : goal.invariant-loop-name
invariant-loop-name l = are_available (drop l.name-index l.names) ≡ are_available l.names
