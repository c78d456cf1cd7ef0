-- How many parameters there are.
use Rattle.std.proofs.Common.{◌≡◌, suc, List, [], ◌∷◌, length, map, refl, ap, ◌∙◌}
use Rattle.pt_tree.specs.declared.expression.Parameter.{Parameter}
use Rattle.pt_tree.specs.Syntax as S
use Rattle.pt_tree.specs.Fold.{chained, formal_of}
use Rattle.pt_tree.proofs.Folds.{formal_of-parts}
use Rattle.sem_names.specs.BlockNames.{formal_names}

pub count_formals : (ps : List Parameter) → length (formal_names (chained S.no_formals (map formal_of ps))) ≡ length ps
count_formals [] = refl
count_formals (p ∷ ps) =
    ap (λ fs. length (formal_names fs)) (formal_of-parts p (chained S.no_formals (map formal_of ps)))
    ∙ ap suc (count_formals ps)

pub ruleset counts = count_formals
