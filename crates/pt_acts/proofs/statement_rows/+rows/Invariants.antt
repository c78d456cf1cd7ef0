use Rattle.std.proofs.Common.{◌≡◌, ◌++◌, drop, map}
use Rattle.pt_tree.specs.Syntax as S
use Rattle.pt_tree.specs.Fold.{chained}
use Rattle.pt_tree.specs.StatementFold.{branch_of, handler_of, stms_of}
use Rattle.pt_tree.specs.Acts.{acts_branches, acts_handlers, acts_stms}
use Rattle.pt_acts.proofs.statement_rows.+rows.Given as goal

abbrev pub invariant-push_statements-loop-s : goal.invariant-push_statements-loop-s
invariant-push_statements-loop-s l = l.rows ++ acts_stms (stms_of (drop l.s-index l.statements)) ≡ l.fn.rows ++ acts_stms (stms_of l.statements)

abbrev pub invariant-push_branches-loop-branch : goal.invariant-push_branches-loop-branch
invariant-push_branches-loop-branch l = l.rows ++ acts_branches (chained S.no_branches (map branch_of (drop l.branch-index l.branches))) ≡ l.fn.rows ++ acts_branches (chained S.no_branches (map branch_of l.branches))

abbrev pub invariant-push_handlers-loop-handler : goal.invariant-push_handlers-loop-handler
invariant-push_handlers-loop-handler l = l.rows ++ acts_handlers (chained S.no_handlers (map handler_of (drop l.handler-index l.handlers))) ≡ l.fn.rows ++ acts_handlers (chained S.no_handlers (map handler_of l.handlers))
