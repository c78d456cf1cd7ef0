use Rattle.std.proofs.Common.{drop}
use Rattle.pt_refine_expr.specs.StatementBlocks.{blocks_items}
use Rattle.pt_refine_expr.specs.StatementNarrow.{narrow_items}
use Rattle.pt_wide.specs.StatementFold.{items_of}
use Rattle.pt_refine_expr.proofs.Building.{Walk}
use Rattle.pt_refine.proofs.StatementBuilding.{put_item}
use Rattle.pt_refine.proofs.statement_trees.entered.Given as goal

abbrev pub invariant-loop-item : goal.invariant-loop-item
invariant-loop-item l = Walk put_item l.made (narrow_items l.fn.n (items_of l.items)) (narrow_items l.n (items_of (drop l.item-index l.items))) l.fn.n (blocks_items (items_of l.items)) l.n (blocks_items (items_of (drop l.item-index l.items)))
