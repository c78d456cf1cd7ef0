use Rattle.std.proofs.Common.{sym, ap, ◌∙◌}
use Rattle.pt_wide.proofs.Folds.{exp_of-Starred}
use Rattle.pt_refine_expr.specs.Targets.{behind_item}
use Rattle.pt_refine_expr.proofs.Others.{behind-other}
use Rattle.pt_refine_expr.proofs.stars.Stars.behind.Goals as goal

pub returns-in-Starred : goal.returns-in-Starred
returns-in-Starred c = c.alone.ensures ∙ sym (ap (behind_item c.args.self) (exp_of-Starred c.args.item.now _ c.in-Starred.is))

pub returns-in_default : goal.returns-in_default
returns-in_default c = sym (behind-other c.args.self c.args.item.now c.in_default.not-Starred)
