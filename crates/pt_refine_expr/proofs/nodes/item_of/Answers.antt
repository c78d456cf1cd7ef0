use Rattle.std.proofs.Common.{refl}
use Rattle.pt_tree.proofs.Folds.{exp_of-Item}
use Rattle.pt_refine_expr.proofs.nodes.item_of.Goals as goal

pub returns : goal.returns
returns c = exp_of-Item _ _ _ refl
