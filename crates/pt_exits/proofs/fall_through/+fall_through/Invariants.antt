use Rattle.std.proofs.Common.{◌≡◌, drop, map}
use Rattle.pt_tree.specs.Syntax as S
use Rattle.pt_tree.specs.Fold.{chained}
use Rattle.pt_tree.specs.StatementFold.{branch_of, handler_of}
use Rattle.sem_compile.specs.stm_pieces.Needed.{some_branch_goes_on, some_handler_goes_on}
use Rattle.pt_exits.proofs.fall_through.+fall_through.Given as goal

abbrev pub invariant-some_branch_goes_on-loop-branch : goal.invariant-some_branch_goes_on-loop-branch
invariant-some_branch_goes_on-loop-branch l = some_branch_goes_on (chained S.no_branches (map branch_of l.branches))
    ≡ some_branch_goes_on (chained S.no_branches (map branch_of (drop l.branch-index l.branches)))

abbrev pub invariant-some_handler_goes_on-loop-handler : goal.invariant-some_handler_goes_on-loop-handler
invariant-some_handler_goes_on-loop-handler l = some_handler_goes_on (chained S.no_handlers (map handler_of l.handlers))
    ≡ some_handler_goes_on (chained S.no_handlers (map handler_of (drop l.handler-index l.handlers)))
