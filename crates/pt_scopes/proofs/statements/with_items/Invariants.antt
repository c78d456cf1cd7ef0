use Rattle.std.proofs.Common.{◌≡◌, drop}
use Rattle.pt_scopes.specs.Behind.{behind}
use Rattle.pt_scopes.specs.Mentions.{places_items}
use Rattle.pt_tree.specs.StatementFold.{items_of}
use Rattle.pt_scopes.proofs.statements.with_items.Given as goal

abbrev pub invariant-loop-item : goal.invariant-loop-item
invariant-loop-item l = behind l.g (places_items l.at l.class (items_of (drop l.item-index l.items))) ≡ behind l.fn.g (places_items l.at l.class (items_of l.items))
