use Rattle.std.proofs.Common.{◌≡◌, length}
use Rattle.pt_expr_forms.specs.Behind.{links_ended}
use Rattle.pt_write_leaves.proofs.links.end_links.Given as goal

abbrev pub invariant-loop-of_link : goal.invariant-loop-of_link
invariant-loop-of_link l = links_ended l.ends l.w ≡ links_ended l.fn.ends l.fn.w

abbrev pub decreases-loop-of_link : goal.decreases-loop-of_link
decreases-loop-of_link l = length l.ends
