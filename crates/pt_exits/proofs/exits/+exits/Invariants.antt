use Rattle.std.proofs.Common.{◌≡◌, drop, map}
use Rattle.pt_tree.specs.Syntax as S
use Rattle.pt_tree.specs.Fold.{chained}
use Rattle.pt_tree.specs.StatementFold.{branch_of, handler_of, stms_of}
use Rattle.sem_compile.specs.stm_pieces.Needed.{some_exits, some_branch_exits, some_handler_exits}
use Rattle.pt_exits.proofs.exits.+exits.Given as goal

abbrev pub invariant-some_exits-loop-s : goal.invariant-some_exits-loop-s
invariant-some_exits-loop-s l = some_exits l.exit (stms_of l.statements) ≡ some_exits l.exit (stms_of (drop l.s-index l.statements))

abbrev pub invariant-some_branch_exits-loop-branch : goal.invariant-some_branch_exits-loop-branch
invariant-some_branch_exits-loop-branch l = some_branch_exits l.exit (chained S.no_branches (map branch_of l.branches))
    ≡ some_branch_exits l.exit (chained S.no_branches (map branch_of (drop l.branch-index l.branches)))

abbrev pub invariant-some_handler_exits-loop-handler : goal.invariant-some_handler_exits-loop-handler
invariant-some_handler_exits-loop-handler l = some_handler_exits l.exit (chained S.no_handlers (map handler_of l.handlers))
    ≡ some_handler_exits l.exit (chained S.no_handlers (map handler_of (drop l.handler-index l.handlers)))
