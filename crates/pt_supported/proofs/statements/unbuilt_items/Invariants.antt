use Rattle.std.proofs.Common.{◌≡◌, drop}
use Rattle.pt_tree.specs.StatementFold.{items_of}
use Rattle.pt_supported.specs.Built.{unbuilt_items}
use Rattle.pt_supported.proofs.statements.unbuilt_items.Given as goal

abbrev pub invariant-loop-item : goal.invariant-loop-item
invariant-loop-item l = unbuilt_items (items_of (drop l.item-index l.items)) ≡ unbuilt_items (items_of l.items)
