use Rattle.std.proofs.Common.{◌+◌, ◌*◌}
use Rattle.pt_comparisons.proofs.order.+orders.Given as goal

abbrev pub decreases-order_by_difference : goal.decreases-order_by_difference
decreases-order_by_difference l = 4 * l.depth + 3

abbrev pub decreases-item_order : goal.decreases-item_order
decreases-item_order l = 4 * l.depth + 2

abbrev pub decreases-objects_order : goal.decreases-objects_order
decreases-objects_order l = 4 * l.depth + 1

abbrev pub decreases-items_order : goal.decreases-items_order
decreases-items_order l = 4 * l.depth
