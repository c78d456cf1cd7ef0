-- The depth of lists, and chains as nodes.
use Rattle.std.proofs.Common.{◌≡◌, ◌≢◌, max, List, [], ◌∷◌, ◌++◌, map, refl, ◌∙◌, ap, arith}
use Rattle.std.proofs.lemmas.List.{map-append}
use Rattle.pt_tree.specs.Fold.{chained}
use Rattle.pt_wide.specs.declared.expression.WideExpr.{WideExpr}
use Rattle.pt_wide.specs.declared.expression.WideComparison.{WideComparison}
use Rattle.pt_wide.specs.Syntax as S
use Rattle.pt_wide.specs.Syntax.{Exp}
use Rattle.pt_wide.specs.Fold.{exp_of, all_of, link_of}
use Rattle.pt_wide.specs.Measure.{depth_exp, depth_all}
use Rattle.pt_wide.proofs.Folds.{link_of-parts}
use Rattle.pt_grammar.specs.Nodes.{Link, links_of, line_of, conjoined, disjoined}
use Rattle.pt_grammar.specs.Views.{links_in, depth_of_links}

pub depth_snoc : (es : List Exp) (e : Exp) → depth_all (all_of (es ++ (e ∷ []))) ≡ max (depth_all (all_of es)) (depth_exp e)
depth_snoc [] e = omega arith
depth_snoc (d ∷ es) e = omega (arith, depth_snoc es e)

pub depth_links_snoc : (cs : List Link) (c : Link) → depth_of_links (cs ++ (c ∷ [])) ≡ max (depth_of_links cs) (depth_exp c.right)
depth_links_snoc [] c = omega arith
depth_links_snoc (d ∷ cs) c = omega (arith, depth_links_snoc cs c)

pub map_snoc : {A B : Type 0} (f : A → B) (xs : List A) (x : A) → map f (xs ++ (x ∷ [])) ≡ map f xs ++ (f x ∷ [])
map_snoc f xs x = map-append f xs (x ∷ [])

pub conjoined_is : (a : Exp) (es : List WideExpr) → es ≢ [] → conjoined a (map exp_of es) ≡ S.and (line_of a) a (all_of (map exp_of es))
conjoined_is a [] n = absurd (n refl)
conjoined_is a (e ∷ es) n = refl

pub disjoined_is : (a : Exp) (es : List WideExpr) → es ≢ [] → disjoined a (map exp_of es) ≡ S.or (line_of a) a (all_of (map exp_of es))
disjoined_is a [] n = absurd (n refl)
disjoined_is a (e ∷ es) n = refl

pub links_same : (cs : List WideComparison) → chained S.no_links (map link_of cs) ≡ links_of (links_in cs)
links_same [] = refl
links_same (c ∷ cs) = link_of-parts c _ ∙ ap (λ r. S.link c.operator (exp_of c.right) r) (links_same cs)
