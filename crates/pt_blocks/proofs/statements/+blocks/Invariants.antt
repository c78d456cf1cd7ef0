use Rattle.std.proofs.Common.{◌≡◌, drop, map}
use Rattle.pt_tree.specs.Syntax as S
use Rattle.pt_tree.specs.Fold.{chained}
use Rattle.pt_tree.specs.StatementFold.{branch_of, handler_of, stms_of}
use Rattle.pt_tree.specs.Blocks.{blocks_branches, blocks_handlers, blocks_stms}
use Rattle.pt_blocks.specs.Visits.{behind_blocks}
use Rattle.pt_blocks.proofs.statements.+blocks.Given as goal

abbrev pub invariant-visit_statements-loop-s : goal.invariant-visit_statements-loop-s
invariant-visit_statements-loop-s g l = behind_blocks g.V.BlockVisitor.behind (blocks_stms (stms_of (drop l.s-index l.statements))) l.visitor ≡ behind_blocks g.V.BlockVisitor.behind (blocks_stms (stms_of l.statements)) l.fn.visitor

abbrev pub invariant-visit_branches-loop-branch : goal.invariant-visit_branches-loop-branch
invariant-visit_branches-loop-branch g l = behind_blocks g.V.BlockVisitor.behind (blocks_branches (chained S.no_branches (map branch_of (drop l.branch-index l.branches)))) l.visitor ≡ behind_blocks g.V.BlockVisitor.behind (blocks_branches (chained S.no_branches (map branch_of l.branches))) l.fn.visitor

abbrev pub invariant-visit_handlers-loop-handler : goal.invariant-visit_handlers-loop-handler
invariant-visit_handlers-loop-handler g l = behind_blocks g.V.BlockVisitor.behind (blocks_handlers (chained S.no_handlers (map handler_of (drop l.handler-index l.handlers)))) l.visitor ≡ behind_blocks g.V.BlockVisitor.behind (blocks_handlers (chained S.no_handlers (map handler_of l.handlers))) l.fn.visitor
