use Rattle.std.proofs.Common.{sym, ap, ◌∙◌, List, map}
use Rattle.pt_wide.proofs.Folds.{exp_of-Tuple}
use Rattle.pt_wide.specs.Fold.{all_of, exp_of}
use Rattle.pt_wide.specs.declared.expression.WideExpr.{WideExpr}
use Rattle.pt_refine_expr.specs.Targets.{are_targets, is_inside_target}
use Rattle.pt_refine_expr.proofs.Others.{inside-other}
use Rattle.pt_refine_expr.proofs.forms.is_inside_target.Goals as goal

pub returns-in-Tuple : goal.returns-in-Tuple
returns-in-Tuple c = c.are_targets.ensures ∙ ap (λ (es : List WideExpr). are_targets (all_of (map exp_of es))) c.as_slice.ensures ∙ sym (ap is_inside_target (exp_of-Tuple c.args.inside.now _ c.in-Tuple.is))

pub returns-in_default : goal.returns-in_default
returns-in_default c = c.is_item.ensures ∙ sym (inside-other c.args.inside.now c.in_default.not-Tuple)
