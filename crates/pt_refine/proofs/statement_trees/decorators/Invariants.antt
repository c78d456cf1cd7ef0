use Rattle.std.proofs.Common.{drop}
use Rattle.pt_refine_expr.specs.StatementBlocks.{blocks_decorators}
use Rattle.pt_refine_expr.specs.StatementNarrow.{narrow_decorators}
use Rattle.pt_wide.specs.StatementFold.{decorators_of}
use Rattle.pt_refine_expr.proofs.Building.{Walk}
use Rattle.pt_refine.proofs.StatementBuilding.{put_decorator}
use Rattle.pt_refine.proofs.statement_trees.decorators.Given as goal

abbrev pub invariant-loop-item : goal.invariant-loop-item
invariant-loop-item l = Walk put_decorator l.made (narrow_decorators l.fn.n (decorators_of l.items)) (narrow_decorators l.n (decorators_of (drop l.item-index l.items))) l.fn.n (blocks_decorators (decorators_of l.items)) l.n (blocks_decorators (decorators_of (drop l.item-index l.items)))
