use Rattle.std.proofs.Common.{◌≡◌, ◌+◌, ◌-◌, ◌*◌, drop, inl, inr, length}
use Rattle.pt_reprs.specs.Pieces.{with_pieces}
use Rattle.pt_reprs.specs.Reprs.{behind_commas, entry_pieces, item_pieces, value_pieces}
use Rattle.pt_reprs.proofs.repr.+reprs.Given as goal

abbrev pub decreases-push_entry : goal.decreases-push_entry
decreases-push_entry l = 11 * l.depth + 10

abbrev pub decreases-push_pair : goal.decreases-push_pair
decreases-push_pair l = 11 * l.depth + 9

abbrev pub decreases-push_both : goal.decreases-push_both
decreases-push_both l = 11 * l.depth + 8

abbrev pub decreases-push_value : goal.decreases-push_value
decreases-push_value l = 11 * l.depth + 7

abbrev pub decreases-push_object : goal.decreases-push_object
decreases-push_object l = 11 * l.depth + 6

abbrev pub decreases-push_view : goal.decreases-push_view
decreases-push_view l = 11 * l.depth + 5

abbrev pub decreases-push_shown : goal.decreases-push_shown
decreases-push_shown l = 11 * l.depth + 4

abbrev pub decreases-push_set : goal.decreases-push_set
decreases-push_set l = 11 * l.depth + 3

abbrev pub decreases-push_dict : goal.decreases-push_dict
decreases-push_dict l = 11 * l.depth + 1

abbrev pub decreases-push_container : goal.decreases-push_container
decreases-push_container l = 11 * l.depth + 1

abbrev pub decreases-push_entries : goal.decreases-push_entries
decreases-push_entries l = 11 * l.depth

abbrev pub decreases-push_items : goal.decreases-push_items
decreases-push_items l = 11 * l.depth

abbrev pub invariant-push_items-loop-item : goal.invariant-push_items-loop-item
invariant-push_items-loop-item l = record {
  writes : with_pieces (item_pieces l.heap l.depth l.fn.path (inl l.items)) l.fn.writer
      ≡ with_pieces (behind_commas (value_pieces (item_pieces l.heap (l.depth - 1)) l.heap l.fn.path) (drop l.item-index l.rest)) l.writer;
  path : l.path ≡ l.fn.path;
}

abbrev pub invariant-push_entries-loop-entry : goal.invariant-push_entries-loop-entry
invariant-push_entries-loop-entry l = record {
  writes : with_pieces (item_pieces l.heap l.depth l.fn.path (inr (l.form, l.dict))) l.fn.writer
      ≡ with_pieces (behind_commas (entry_pieces l.form (value_pieces (item_pieces l.heap (l.depth - 1)) l.heap l.fn.path)) l.left) l.writer;
  path : l.path ≡ l.fn.path;
}

abbrev pub decreases-push_entries-loop-entry : goal.decreases-push_entries-loop-entry
decreases-push_entries-loop-entry l = length l.left
