use Rattle.std.proofs.Common.{arith}
use Rattle.pt_refine_expr.proofs.Others.{targets-items}
use Rattle.pt_refine_expr.proofs.forms.are_targets.Goals as goal

pub returns : goal.returns
returns c = grind (arith, targets-items c.args.items.now)
