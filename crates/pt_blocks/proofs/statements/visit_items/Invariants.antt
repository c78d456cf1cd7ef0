use Rattle.std.proofs.Common.{◌≡◌, drop}
use Rattle.pt_tree.specs.StatementFold.{items_of}
use Rattle.pt_tree.specs.Blocks.{blocks_items}
use Rattle.pt_blocks.specs.Visits.{behind_blocks}
use Rattle.pt_blocks.proofs.statements.visit_items.Given as goal

abbrev pub invariant-loop-item : goal.invariant-loop-item
invariant-loop-item g l = behind_blocks g.V.BlockVisitor.behind (blocks_items (items_of (drop l.item-index l.items))) l.visitor ≡ behind_blocks g.V.BlockVisitor.behind (blocks_items (items_of l.items)) l.fn.visitor
