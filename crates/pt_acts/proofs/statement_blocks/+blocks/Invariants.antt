use Rattle.std.proofs.Common.{◌≡◌, ◌++◌, drop, map}
use Rattle.pt_tree.specs.Syntax as S
use Rattle.pt_tree.specs.Fold.{chained}
use Rattle.pt_tree.specs.StatementFold.{branch_of, handler_of, stms_of}
use Rattle.pt_tree.specs.Blocks.{acts_of, blocks_branches, blocks_handlers, blocks_stms}
use Rattle.pt_acts.proofs.statement_blocks.+blocks.Given as goal

abbrev pub invariant-collect_statements-loop-s : goal.invariant-collect_statements-loop-s
invariant-collect_statements-loop-s l = l.table ++ map acts_of (blocks_stms (stms_of (drop l.s-index l.statements))) ≡ l.fn.table ++ map acts_of (blocks_stms (stms_of l.statements))

abbrev pub invariant-collect_branches-loop-branch : goal.invariant-collect_branches-loop-branch
invariant-collect_branches-loop-branch l = l.table ++ map acts_of (blocks_branches (chained S.no_branches (map branch_of (drop l.branch-index l.branches)))) ≡ l.fn.table ++ map acts_of (blocks_branches (chained S.no_branches (map branch_of l.branches)))

abbrev pub invariant-collect_handlers-loop-handler : goal.invariant-collect_handlers-loop-handler
invariant-collect_handlers-loop-handler l = l.table ++ map acts_of (blocks_handlers (chained S.no_handlers (map handler_of (drop l.handler-index l.handlers)))) ≡ l.fn.table ++ map acts_of (blocks_handlers (chained S.no_handlers (map handler_of l.handlers)))
