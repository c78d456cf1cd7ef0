use Rattle.std.proofs.Common.{refl}
use Rattle.pt_tree.proofs.Folds.{exp_of-Not}
use Rattle.pt_refine_expr.proofs.nodes.not_of.Goals as goal

pub returns : goal.returns
returns c = exp_of-Not _ _ refl
