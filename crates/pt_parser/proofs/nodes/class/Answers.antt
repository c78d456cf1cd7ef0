use Rattle.std.proofs.Common.{◌≡◌, ◌∙◌, ap, refl}
use Rattle.pt_wide.specs.Syntax as S
use Rattle.pt_wide.specs.StatementFold.{stms_of}
use Rattle.pt_wide.proofs.StatementFolds.{stm_of-Class}
use Rattle.pt_grammar.specs.Views.{args_in}
use Rattle.pt_parser.proofs.NodeLemmas.{decorators_same}
use Rattle.pt_parser.proofs.nodes.class.Goals as goal

pub returns : goal.returns
returns c = stm_of-Class _ _ _ _ _ _ _ refl
    ∙ ap (λ ds. S.class c.args.line.0 ds c.args.at.0 c.args.name (args_in c.args.bases.arguments) c.args.bases.trailing_comma (stms_of c.args.body)) (decorators_same c.args.decorators)
