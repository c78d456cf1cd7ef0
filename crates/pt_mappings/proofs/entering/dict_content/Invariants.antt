use Rattle.std.proofs.Common.{◌≡◌, Ok, [], length}
use Rattle.pt_mappings.specs.Entering.{displayed}
use Rattle.pt_mappings.proofs.entering.dict_content.Given as goal

abbrev pub invariant-loop-key : goal.invariant-loop-key
invariant-loop-key l = displayed l.heap (Ok l.dict) l.left ≡ displayed l.heap (Ok []) l.items

abbrev pub decreases-loop-key : goal.decreases-loop-key
decreases-loop-key l = length l.left
