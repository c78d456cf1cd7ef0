use Rattle.std.proofs.Common.{drop}
use Rattle.pt_refine_expr.specs.StatementBlocks.{blocks_branches, blocks_handlers, blocks_stms}
use Rattle.pt_refine_expr.specs.StatementNarrow.{narrow_branches, narrow_handlers, narrow_stms}
use Rattle.pt_refine.specs.StatementsNarrowed.{wide_branches, wide_handlers}
use Rattle.pt_tree.specs.StatementFold as T
use Rattle.pt_tree.specs.Syntax as P
use Rattle.pt_wide.specs.StatementFold.{stms_of}
use Rattle.pt_refine_expr.proofs.Building.{Walk}
use Rattle.pt_refine.proofs.block_trees.+blocks.Given as goal

abbrev pub invariant-statements-loop-one : goal.invariant-statements-loop-one
invariant-statements-loop-one l = Walk (λ s. P.more (T.stm_of s)) l.made (narrow_stms l.fn.n (stms_of l.block)) (narrow_stms l.n (stms_of (drop l.one-index l.block))) l.fn.n (blocks_stms (stms_of l.block)) l.n (blocks_stms (stms_of (drop l.one-index l.block)))

abbrev pub invariant-branches-loop-one : goal.invariant-branches-loop-one
invariant-branches-loop-one l = Walk T.branch_of l.made (narrow_branches l.fn.n (wide_branches l.tests)) (narrow_branches l.n (wide_branches (drop l.one-index l.tests))) l.fn.n (blocks_branches (wide_branches l.tests)) l.n (blocks_branches (wide_branches (drop l.one-index l.tests)))

abbrev pub invariant-handlers-loop-one : goal.invariant-handlers-loop-one
invariant-handlers-loop-one l = Walk T.handler_of l.made (narrow_handlers l.fn.n (wide_handlers l.clauses)) (narrow_handlers l.n (wide_handlers (drop l.one-index l.clauses))) l.fn.n (blocks_handlers (wide_handlers l.clauses)) l.n (blocks_handlers (wide_handlers (drop l.one-index l.clauses)))
