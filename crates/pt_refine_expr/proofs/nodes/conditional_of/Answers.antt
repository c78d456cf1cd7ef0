use Rattle.std.proofs.Common.{refl}
use Rattle.pt_tree.proofs.Folds.{exp_of-Conditional}
use Rattle.pt_refine_expr.proofs.nodes.conditional_of.Goals as goal

pub returns : goal.returns
returns c = exp_of-Conditional _ _ _ _ refl
