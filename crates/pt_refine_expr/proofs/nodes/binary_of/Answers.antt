use Rattle.std.proofs.Common.{refl}
use Rattle.pt_tree.proofs.Folds.{exp_of-Binary}
use Rattle.pt_refine_expr.proofs.nodes.binary_of.Goals as goal

pub returns : goal.returns
returns c = exp_of-Binary _ _ _ _ refl
