use Rattle.std.proofs.Common.{◌≡◌, length}
use Rattle.pt_prims.specs.Spreads.{are_named}
use Rattle.pt_prims.proofs.spreads.are_named.Given as goal

abbrev pub invariant-loop-entry : goal.invariant-loop-entry
invariant-loop-entry l = are_named l.heap l.entries ≡ are_named l.heap l.dict

abbrev pub decreases-loop-entry : goal.decreases-loop-entry
decreases-loop-entry l = length l.entries
