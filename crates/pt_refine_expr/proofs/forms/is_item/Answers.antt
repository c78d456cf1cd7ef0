use Rattle.std.proofs.Common.{sym, ap, ◌∙◌}
use Rattle.pt_wide.proofs.Folds.{exp_of-Starred}
use Rattle.pt_wide.specs.Fold.{exp_of}
use Rattle.pt_wide.specs.declared.expression.WideExpr.{WideExpr}
use Rattle.pt_refine_expr.specs.Targets.{is_item, is_operand}
use Rattle.pt_refine_expr.proofs.Others.{item-other}
use Rattle.pt_refine_expr.proofs.forms.is_item.Goals as goal

pub returns-in-Starred : goal.returns-in-Starred
returns-in-Starred c = c.is_operand.ensures ∙ ap (λ (e : WideExpr). is_operand (exp_of e)) c.get.ensures ∙ sym (ap is_item (exp_of-Starred c.args.e.now _ c.in-Starred.is))

pub returns-in_default : goal.returns-in_default
returns-in_default c = c.is_operand-in_default.ensures ∙ sym (item-other c.args.e.now c.in_default.not-Starred)
