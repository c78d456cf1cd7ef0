use Rattle.std.proofs.Common.{◌≡◌, [], drop, map}
use Rattle.pt_tree.specs.Syntax as S
use Rattle.pt_tree.specs.Fold.{chained}
use Rattle.pt_tree.specs.StatementFold.{branch_of, handler_of, items_of, stms_of}
use Rattle.pt_exits.specs.Asked.{asked}
use Rattle.pt_write_simple.specs.pt_stm_forms.Compound.{behind_branches, behind_handlers, behind_items, behind_suite}
use Rattle.pt_comp.proofs.Rules.{suite_from}
use Rattle.pt_comp.proofs.+statements.Given as goal

abbrev pub invariant-statements::suite_code-loop-i : goal.invariant-statements::suite_code-loop-i
invariant-statements::suite_code-loop-i l =
    suite_from l.names (drop l.i l.body) (asked l.behind) l.w ≡ behind_suite l.names (stms_of l.body) (asked l.behind) l.fn.w

abbrev pub invariant-choices::branches_code-loop-branch : goal.invariant-choices::branches_code-loop-branch
invariant-choices::branches_code-loop-branch l =
    behind_branches l.names (chained S.no_branches (map branch_of (drop l.branch-index l.branches))) l.end l.w
    ≡ behind_branches l.names (chained S.no_branches (map branch_of l.branches)) l.end l.fn.w

abbrev pub invariant-tries::each_handler-loop-handler : goal.invariant-tries::each_handler-loop-handler
invariant-tries::each_handler-loop-handler l =
    behind_handlers l.names (chained S.no_handlers (map handler_of (drop l.handler-index l.handlers))) l.end l.w
    ≡ behind_handlers l.names (chained S.no_handlers (map handler_of l.handlers)) l.end l.fn.w

abbrev pub invariant-contexts::with_statement-loop-item : goal.invariant-contexts::with_statement-loop-item
invariant-contexts::with_statement-loop-item l = behind_items l.names (items_of (drop l.item-index l.items)) (stms_of l.body) l.entered l.w
    ≡ behind_items l.names (items_of l.items) (stms_of l.body) [] l.fn.w
