use Rattle.std.proofs.Common.{◌≡◌, drop, map}
use Rattle.pt_tree.specs.Fold.{chained}
use Rattle.pt_wide.specs.StatementFold.{branch_of, handler_of, stms_of}
use Rattle.pt_wide.specs.Syntax as W
use Rattle.pt_refine_expr.specs.First.{first_of}
use Rattle.pt_refine_expr.specs.StatementFaults.{faults_branches, faults_handlers, faults_stms}
use Rattle.pt_refine_expr.proofs.statement_faults.+statements.Given as goal

abbrev pub invariant-check_statements-loop-statement : goal.invariant-check_statements-loop-statement
invariant-check_statements-loop-statement l = first_of (faults_stms (stms_of (drop l.statement-index l.statements))) ≡ first_of (faults_stms (stms_of l.statements))

abbrev pub invariant-check_branches-loop-branch : goal.invariant-check_branches-loop-branch
invariant-check_branches-loop-branch l = first_of (faults_branches (chained W.no_branches (map branch_of (drop l.branch-index l.branches)))) ≡ first_of (faults_branches (chained W.no_branches (map branch_of l.branches)))

abbrev pub invariant-check_handlers-loop-handler : goal.invariant-check_handlers-loop-handler
invariant-check_handlers-loop-handler l = first_of (faults_handlers (chained W.no_handlers (map handler_of (drop l.handler-index l.handlers)))) ≡ first_of (faults_handlers (chained W.no_handlers (map handler_of l.handlers)))
