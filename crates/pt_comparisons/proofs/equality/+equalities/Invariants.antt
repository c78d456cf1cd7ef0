use Rattle.std.proofs.Common.{◌≡◌, ◌+◌, ◌*◌, drop, length}
use Rattle.pt_comparisons.specs.Equalities.{all_equal, insides_equality, item_equality, values_equal}
use Rattle.pt_comparisons.proofs.equality.+equalities.Given as goal

abbrev pub decreases-all_equal : goal.decreases-all_equal
decreases-all_equal l = 4 * l.depth + 3

abbrev pub decreases-values_equal : goal.decreases-values_equal
decreases-values_equal l = 4 * l.depth + 3

abbrev pub decreases-item_equality : goal.decreases-item_equality
decreases-item_equality l = 4 * l.depth + 2

abbrev pub decreases-objects_equality : goal.decreases-objects_equality
decreases-objects_equality l = 4 * l.depth + 1

abbrev pub decreases-items_equality : goal.decreases-items_equality
decreases-items_equality l = 4 * l.depth

abbrev pub decreases-entries_equality : goal.decreases-entries_equality
decreases-entries_equality l = 4 * l.depth

abbrev pub invariant-all_equal-loop-item : goal.invariant-all_equal-loop-item
invariant-all_equal-loop-item l =
    all_equal (item_equality (insides_equality l.heap l.depth) l.heap) (drop l.item-index l.a) l.others
    ≡ all_equal (item_equality (insides_equality l.heap l.depth) l.heap) l.a l.b

abbrev pub invariant-values_equal-loop-entry : goal.invariant-values_equal-loop-entry
invariant-values_equal-loop-entry l =
    values_equal (item_equality (insides_equality l.heap l.depth) l.heap) l.left l.b
    ≡ values_equal (item_equality (insides_equality l.heap l.depth) l.heap) l.a l.b

abbrev pub decreases-values_equal-loop-entry : goal.decreases-values_equal-loop-entry
decreases-values_equal-loop-entry l = length l.left
