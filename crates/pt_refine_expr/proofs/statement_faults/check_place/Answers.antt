use Rattle.std.proofs.Common.{sym, ap, arith}
use Rattle.pt_wide.proofs.Folds.{exp_of-Attribute, exp_of-Item, exp_of-Name}
use Rattle.pt_refine_expr.specs.First.{first_of}
use Rattle.pt_refine_expr.proofs.Others.{place-other}
use Rattle.pt_refine_expr.proofs.Stops.{first-both}
use Rattle.pt_refine_expr.proofs.statement_faults.check_place.Goals as goal

pub returns-in-Name : goal.returns-in-Name
returns-in-Name c = grind (arith, first-both, exp_of-Name c.args.e.now _ c.in-Name.is)

pub returns-in-Attribute : goal.returns-in-Attribute
returns-in-Attribute c = grind (arith, first-both, exp_of-Attribute c.args.e.now _ _ c.in-Attribute.is)

pub returns-in_err-check_expression-in-Item : goal.returns-in_err-check_expression-in-Item
returns-in_err-check_expression-in-Item c = grind (arith, first-both, exp_of-Item c.args.e.now _ _ c.in-Item.is)

pub returns-in_ok-check_expression-in-Item : goal.returns-in_ok-check_expression-in-Item
returns-in_ok-check_expression-in-Item c = grind (arith, first-both, exp_of-Item c.args.e.now _ _ c.in-Item.is)

pub returns-in_default : goal.returns-in_default
returns-in_default c = sym (ap first_of (place-other c.args.e.now (c.in_default.not-Name, c.in_default.not-Attribute, c.in_default.not-Item)))
