use Rattle.std.proofs.Common.{◌≡◌, Ok, [], length}
use Rattle.pt_sets.specs.Members.{displayed}
use Rattle.pt_sets.proofs.members.set_content.Given as goal

abbrev pub invariant-loop-left : goal.invariant-loop-left
invariant-loop-left l = displayed l.heap (Ok l.set) l.left ≡ displayed l.heap (Ok []) l.items

abbrev pub decreases-loop-left : goal.decreases-loop-left
decreases-loop-left l = length l.left
