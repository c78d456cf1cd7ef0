use Rattle.std.proofs.Common.{◌≡◌, ◌∙◌, ap, refl, List, [], ◌∷◌, map, ℕ}
use Rattle.pt_base.specs.declared.numbers.Line.{Line}
use Rattle.pt_tree.specs.Fold.{chained}
use Rattle.pt_wide.specs.declared.statement.WideBranch.{WideBranch, out-WideBranch}
use Rattle.pt_wide.specs.Syntax as S
use Rattle.pt_wide.specs.Syntax.{Branches}
use Rattle.pt_wide.specs.Fold.{exp_of}
use Rattle.pt_wide.specs.StatementFold.{branch_of, stms_of}
use Rattle.pt_wide.proofs.StatementFolds.{stm_of-If, branch_of-parts}
use Rattle.pt_parser.specs.Grammar.{branches_of}
use Rattle.pt_parser.specs.Views.{branch_in}
use Rattle.pt_parser.proofs.nodes.choice.Goals as goal

branches_same : (bs : List WideBranch) → chained S.no_branches (map branch_of bs) ≡ branches_of (map branch_in bs)
branches_same [] = refl
branches_same (b ∷ bs) =
    branch_of-parts b (chained S.no_branches (map branch_of bs))
    ∙ ap (λ r. S.branch (out-WideBranch b).line.0 (exp_of (out-WideBranch b).test) (stms_of (out-WideBranch b).body) r) (branches_same bs)

pub returns : goal.returns
returns c = stm_of-If _ _ _ refl ∙ ap (λ bs. S.choice c.args.line.0 bs (stms_of c.args.otherwise)) (branches_same c.args.branches)
