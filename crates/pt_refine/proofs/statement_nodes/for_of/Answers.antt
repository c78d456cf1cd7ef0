use Rattle.std.proofs.Common.{◌∙◌, ap, refl}
use Rattle.pt_tree.proofs.StatementFolds.{stm_of-For}
use Rattle.pt_tree.specs.Fold.{exp_of, target_of}
use Rattle.pt_tree.specs.StatementFold.{stms_of}
use Rattle.pt_tree.specs.Syntax as P
use Rattle.pt_refine.proofs.statement_nodes.for_of.Goals as goal

pub returns : goal.returns
returns c = stm_of-For _ _ _ _ _ refl ∙ ap (λ x. P.for c.args.line.0 (target_of x) (exp_of c.into_inner-2.result) (stms_of c.args.body) (stms_of c.args.otherwise)) c.into_inner.ensures
    ∙ ap (λ x. P.for c.args.line.0 (target_of c.args.target) (exp_of x) (stms_of c.args.body) (stms_of c.args.otherwise)) c.into_inner-2.ensures
