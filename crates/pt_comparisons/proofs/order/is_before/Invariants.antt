use Rattle.std.proofs.Common.{◌≡◌, length}
use Rattle.std.specs.Str.{chars}
use Rattle.pt_comparisons.specs.Orders.{is_before}
use Rattle.pt_comparisons.proofs.order.is_before.Given as goal

abbrev pub invariant-loop-other : goal.invariant-loop-other
invariant-loop-other l = is_before l.left l.others ≡ is_before (chars l.a) (chars l.b)

abbrev pub decreases-loop-other : goal.decreases-loop-other
decreases-loop-other l = length l.others
