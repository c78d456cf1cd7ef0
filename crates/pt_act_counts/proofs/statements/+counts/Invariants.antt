use Rattle.std.proofs.Common.{◌≡◌, ◌+◌, drop, map}
use Rattle.pt_tree.specs.Syntax as S
use Rattle.pt_tree.specs.Fold.{chained}
use Rattle.pt_tree.specs.Sizes.{branches_size, handlers_size, stms_size}
use Rattle.pt_tree.specs.StatementFold.{branch_of, handler_of, stms_of}
use Rattle.pt_act_counts.proofs.statements.+counts.Given as goal

abbrev pub invariant-count_statements-loop-s : goal.invariant-count_statements-loop-s
invariant-count_statements-loop-s l = l.acts + stms_size (stms_of (drop l.s-index l.statements)) ≡ l.fn.acts + stms_size (stms_of l.statements)

abbrev pub invariant-count_branches-loop-branch : goal.invariant-count_branches-loop-branch
invariant-count_branches-loop-branch l = l.acts + branches_size (chained S.no_branches (map branch_of (drop l.branch-index l.branches)))
    ≡ l.fn.acts + branches_size (chained S.no_branches (map branch_of l.branches))

abbrev pub invariant-count_handlers-loop-handler : goal.invariant-count_handlers-loop-handler
invariant-count_handlers-loop-handler l = l.acts + handlers_size (chained S.no_handlers (map handler_of (drop l.handler-index l.handlers)))
    ≡ l.fn.acts + handlers_size (chained S.no_handlers (map handler_of l.handlers))
