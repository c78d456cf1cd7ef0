use Rattle.std.proofs.Common.{◌≡◌, ◌∙◌, ap, refl, map}
use Rattle.pt_wide.specs.Syntax as S
use Rattle.pt_wide.specs.Fold.{opt_exp, parameters_of}
use Rattle.pt_wide.specs.StatementFold.{stms_of}
use Rattle.pt_wide.proofs.StatementFolds.{stm_of-Def}
use Rattle.pt_grammar.specs.Nodes.{params_of}
use Rattle.pt_grammar.specs.ReadViews.{gathered_read}
use Rattle.pt_parser.specs.Headings.{decorators_from}
use Rattle.pt_parser.specs.Views.{decorator_in}
use Rattle.pt_parser.proofs.NodeLemmas.{decorators_same, parameters_same}
use Rattle.pt_parser.proofs.nodes.function.Goals as goal

pub returns : goal.returns
returns c = stm_of-Def _ _ _ _ _ _ _ refl
    ∙ ap (λ ds. S.def c.args.line.0 ds c.args.at.0 c.args.signature.name (parameters_of c.args.signature.parameters.tree) (opt_exp c.unboxed.result) (stms_of c.args.body)) (decorators_same c.args.decorators)
    ∙ ap (λ ps. S.def c.args.line.0 (decorators_from (map decorator_in c.args.decorators)) c.args.at.0 c.args.signature.name ps (opt_exp c.unboxed.result) (stms_of c.args.body)) (parameters_same c.args.signature.parameters)
    ∙ ap (λ r. S.def c.args.line.0 (decorators_from (map decorator_in c.args.decorators)) c.args.at.0 c.args.signature.name (params_of (gathered_read c.args.signature.parameters)) r (stms_of c.args.body)) c.unboxed.ensures
