use Rattle.std.proofs.Common.{◌≡◌, drop, map}
use Rattle.pt_tree.specs.Syntax as S
use Rattle.pt_tree.specs.Fold.{chained}
use Rattle.pt_tree.specs.StatementFold.{branch_of, stms_of, handler_of}
use Rattle.pt_supported.specs.Built.{unbuilt_branches, unbuilt_stms, unbuilt_handlers}
use Rattle.pt_supported.proofs.statements.+statements.Given as goal

abbrev pub invariant-unbuilt_statements-loop-s : goal.invariant-unbuilt_statements-loop-s
invariant-unbuilt_statements-loop-s l = unbuilt_stms (stms_of (drop l.s-index l.statements)) ≡ unbuilt_stms (stms_of l.statements)

abbrev pub invariant-unbuilt_branches-loop-branch : goal.invariant-unbuilt_branches-loop-branch
invariant-unbuilt_branches-loop-branch l =
    unbuilt_branches (chained S.no_branches (map branch_of (drop l.branch-index l.branches))) ≡ unbuilt_branches (chained S.no_branches (map branch_of l.branches))

abbrev pub invariant-unbuilt_handlers-loop-handler : goal.invariant-unbuilt_handlers-loop-handler
invariant-unbuilt_handlers-loop-handler l =
    unbuilt_handlers (chained S.no_handlers (map handler_of (drop l.handler-index l.handlers)))
    ≡ unbuilt_handlers (chained S.no_handlers (map handler_of l.handlers))
