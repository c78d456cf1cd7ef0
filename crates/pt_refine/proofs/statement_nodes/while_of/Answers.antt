use Rattle.std.proofs.Common.{◌∙◌, ap, refl}
use Rattle.pt_tree.proofs.StatementFolds.{stm_of-While}
use Rattle.pt_tree.specs.Fold.{exp_of}
use Rattle.pt_tree.specs.StatementFold.{stms_of}
use Rattle.pt_tree.specs.Syntax as P
use Rattle.pt_refine.proofs.statement_nodes.while_of.Goals as goal

pub returns : goal.returns
returns c = stm_of-While _ _ _ _ refl ∙ ap (λ x. P.while c.args.line.0 (exp_of x) (stms_of c.args.body) (stms_of c.args.otherwise)) c.into_inner.ensures
