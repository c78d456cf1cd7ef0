use Rattle.std.proofs.Common.{drop}
use Rattle.pt_refine_expr.specs.Blocks.{blocks_all}
use Rattle.pt_refine_expr.specs.Narrowed.{wide_exps}
use Rattle.pt_refine_expr.specs.StatementNarrow.{narrow_assigned}
use Rattle.pt_tree.specs.Fold as T
use Rattle.pt_tree.specs.Syntax as P
use Rattle.pt_refine_expr.proofs.Building.{Walk}
use Rattle.pt_refine.proofs.statement_trees.assigned.Given as goal

abbrev pub invariant-loop-item : goal.invariant-loop-item
invariant-loop-item l = Walk (λ t. P.more_targets (T.target_of t)) l.made (narrow_assigned l.fn.n (wide_exps l.items)) (narrow_assigned l.n (wide_exps (drop l.item-index l.items))) l.fn.n (blocks_all (wide_exps l.items)) l.n (blocks_all (wide_exps (drop l.item-index l.items)))
