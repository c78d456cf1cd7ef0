use Rattle.std.proofs.Common.{◌≡◌, ◌+◌, drop}
use Rattle.pt_tree.specs.Sizes.{items_size}
use Rattle.pt_tree.specs.StatementFold.{items_of}
use Rattle.pt_act_counts.proofs.statements.count_items.Given as goal

abbrev pub invariant-loop-item : goal.invariant-loop-item
invariant-loop-item l = l.acts + items_size (items_of (drop l.item-index l.items)) 0 ≡ l.fn.acts + items_size (items_of l.items) 0
