use Rattle.std.proofs.Common.{◌∙◌, ap, refl}
use Rattle.pt_tree.proofs.StatementFolds.{stm_of-Def}
use Rattle.pt_tree.specs.Fold.{opt_exp, parameters_of}
use Rattle.pt_tree.specs.StatementFold.{decorators_of, stms_of}
use Rattle.pt_tree.specs.Syntax as P
use Rattle.pt_refine.proofs.statement_nodes.def_of.Goals as goal

pub returns : goal.returns
returns c = stm_of-Def _ _ _ _ _ _ _ _ refl ∙ ap (λ x. P.def c.args.line.0 (decorators_of c.args.decorators) c.args.at.0 c.args.block.0 c.args.name (parameters_of x) (opt_exp c.into_inner-2.result) (stms_of c.args.body)) c.into_inner.ensures
    ∙ ap (λ x. P.def c.args.line.0 (decorators_of c.args.decorators) c.args.at.0 c.args.block.0 c.args.name (parameters_of c.args.parameters) (opt_exp x) (stms_of c.args.body)) c.into_inner-2.ensures
