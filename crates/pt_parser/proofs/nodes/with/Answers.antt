use Rattle.std.proofs.Common.{◌≡◌, ◌∙◌, ap, refl, List, [], ◌∷◌, map}
use Rattle.pt_wide.specs.declared.statement.WideItem.{WideItem}
use Rattle.pt_wide.specs.Syntax as S
use Rattle.pt_wide.specs.Fold.{exp_of, opt_exp}
use Rattle.pt_wide.specs.StatementFold.{items_of, stms_of}
use Rattle.pt_wide.proofs.StatementFolds.{stm_of-With}
use Rattle.pt_parser.specs.With.{items_from}
use Rattle.pt_parser.specs.Views.{item_in}
use Rattle.pt_parser.proofs.nodes.with.Goals as goal

items_same : (xs : List WideItem) → items_of xs ≡ items_from (map item_in xs)
items_same [] = refl
items_same (x ∷ xs) = ap (λ r. S.with_item x.line.0 (exp_of x.context) (opt_exp x.target) r) (items_same xs)

pub returns : goal.returns
returns c = stm_of-With _ _ _ refl ∙ ap (λ xs. S.with c.args.line.0 xs (stms_of c.args.body)) (items_same c.args.items)
