use Rattle.std.proofs.Common.{◌∙◌, ap, refl}
use Rattle.pt_tree.specs.Fold.{exp_of, parameters_of}
use Rattle.pt_tree.specs.Syntax as P
use Rattle.pt_tree.proofs.Folds.{exp_of-Lambda}
use Rattle.pt_refine_expr.proofs.nodes.lambda_of.Goals as goal

pub returns : goal.returns
returns c = exp_of-Lambda _ _ _ _ refl ∙ ap (λ ps. P.lambda c.args.line.0 c.args.block.0 (parameters_of ps) (exp_of c.args.body)) c.into_inner.ensures
