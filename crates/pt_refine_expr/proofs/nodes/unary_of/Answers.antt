use Rattle.std.proofs.Common.{refl}
use Rattle.pt_tree.proofs.Folds.{exp_of-Unary}
use Rattle.pt_refine_expr.proofs.nodes.unary_of.Goals as goal

pub returns : goal.returns
returns c = exp_of-Unary _ _ _ refl
