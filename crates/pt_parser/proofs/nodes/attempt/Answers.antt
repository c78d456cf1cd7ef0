use Rattle.std.proofs.Common.{◌≡◌, ◌∙◌, ap, refl}
use Rattle.pt_wide.specs.Syntax as S
use Rattle.pt_wide.specs.StatementFold.{stms_of}
use Rattle.pt_wide.proofs.StatementFolds.{stm_of-Try}
use Rattle.pt_parser.proofs.NodeLemmas.{handlers_same}
use Rattle.pt_parser.proofs.nodes.attempt.Goals as goal

pub returns : goal.returns
returns c = stm_of-Try _ _ _ _ _ refl
    ∙ ap (λ hs. S.try c.args.line.0 (stms_of c.args.body) hs (stms_of c.args.otherwise) (stms_of c.args.finally)) (handlers_same c.args.handlers)
