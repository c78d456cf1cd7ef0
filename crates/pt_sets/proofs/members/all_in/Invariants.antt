use Rattle.std.proofs.Common.{◌≡◌, length}
use Rattle.pt_sets.specs.Members.{all_in}
use Rattle.pt_sets.proofs.members.all_in.Given as goal

abbrev pub invariant-loop-entry : goal.invariant-loop-entry
invariant-loop-entry l = all_in l.left l.other ≡ all_in l.items l.other

abbrev pub decreases-loop-entry : goal.decreases-loop-entry
decreases-loop-entry l = length l.left
