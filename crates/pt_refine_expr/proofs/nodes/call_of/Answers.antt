use Rattle.std.proofs.Common.{refl}
use Rattle.pt_tree.proofs.Folds.{exp_of-Call}
use Rattle.pt_refine_expr.proofs.nodes.call_of.Goals as goal

pub returns : goal.returns
returns c = exp_of-Call _ _ _ refl
