use Rattle.std.proofs.Common.{◌≡◌, ◌+◌, ◌*◌}
use Rattle.test_prims.proofs.answers.+items.Given as goal

abbrev pub decreases-write_item : goal.decreases-write_item
decreases-write_item l = 4 * l.depth + 3

abbrev pub decreases-write_cursor : goal.decreases-write_cursor
decreases-write_cursor l = 4 * l.depth + 3

abbrev pub decreases-write_method : goal.decreases-write_method
decreases-write_method l = 4 * l.depth + 4

abbrev pub decreases-write_object : goal.decreases-write_object
decreases-write_object l = 4 * l.depth + 2

abbrev pub decreases-write_made : goal.decreases-write_made
decreases-write_made l = 4 * l.depth + 1

abbrev pub decreases-write_items : goal.decreases-write_items
decreases-write_items l = 4 * l.depth

abbrev pub decreases-write_entries : goal.decreases-write_entries
decreases-write_entries l = 4 * l.depth
