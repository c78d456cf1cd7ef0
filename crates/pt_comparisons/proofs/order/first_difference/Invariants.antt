use Rattle.std.proofs.Common.{◌≡◌, drop}
use Rattle.pt_comparisons.specs.Equalities.{insides_equality, item_equality}
use Rattle.pt_comparisons.specs.Orders.{first_difference}
use Rattle.pt_comparisons.proofs.order.first_difference.Given as goal

abbrev pub invariant-loop-item : goal.invariant-loop-item
invariant-loop-item l =
    first_difference (item_equality (insides_equality l.heap l.depth) l.heap) (drop l.item-index l.a) l.others
    ≡ first_difference (item_equality (insides_equality l.heap l.depth) l.heap) l.a l.b
