use Rattle.std.proofs.Common.{refl}
use Rattle.pt_tree.proofs.Folds.{exp_of-Attribute}
use Rattle.pt_refine_expr.proofs.nodes.attribute_of.Goals as goal

pub returns : goal.returns
returns c = exp_of-Attribute _ _ _ refl
