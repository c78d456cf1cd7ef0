use Rattle.std.proofs.Common.{◌∙◌, ap, arith, refl}
use Rattle.pt_tree.proofs.Folds as tree
use Rattle.pt_tree.specs.Fold as T
use Rattle.pt_tree.specs.Syntax as P
use Rattle.pt_wide.proofs.Folds as wide
use Rattle.pt_wide.specs.Fold as V
use Rattle.pt_refine_expr.specs.Faults.{is_clean}
use Rattle.pt_refine_expr.specs.Narrow.{narrow_exp, narrow_place}
use Rattle.pt_refine_expr.proofs.Agreement.{agreed}
use Rattle.pt_refine_expr.proofs.StatementOnePass.{agrees-place}
use Rattle.pt_refine_expr.proofs.Others.{place-other}
use Rattle.pt_refine_expr.proofs.Building.{at-made, leaves, made-is, made-none, made-one, made-two}
use Rattle.pt_refine.proofs.StatementBuilding.{not-some}
use Rattle.pt_refine.proofs.statement_trees.place.Goals as goal

pub returns-in_ok-name-in-Name : goal.returns-in_ok-name-in-Name
returns-in_ok-name-in-Name c = at-made (narrow_place c.args.n.now) (wide.exp_of-Name c.args.e.now _ c.in-Name.is) (made-is refl (tree.place_node_of-Name _ _ _ refl ∙ ap (P.name_at c.args.e.now.line.0) c.in_ok-name-in-Name.ensures) refl (made-none refl))

pub returns-in_ok-name-in-Attribute : goal.returns-in_ok-name-in-Attribute
returns-in_ok-name-in-Attribute c = at-made (narrow_place c.args.n.now) (wide.exp_of-Attribute c.args.e.now _ _ (c.in-Attribute.is ∙ rw c.get.ensures)) (made-is refl (tree.place_node_of-Attribute _ _ _ _ refl ∙ ap (λ x. P.attribute_at c.args.e.now.line.0 (T.exp_of c.in_ok-object-in-Attribute.object) x) c.in_ok-name-in-Attribute.ensures) refl (made-one (λ o. P.attribute_at c.args.e.now.line.0 o c.in-Attribute.name) c.in_ok-object-in-Attribute.ensures))

pub returns-in_ok-index-in-Item : goal.returns-in_ok-index-in-Item
returns-in_ok-index-in-Item c = at-made (narrow_place c.args.n.now) (wide.exp_of-Item c.args.e.now _ _ (c.in-Item.is ∙ rw (c.get-in-Item.ensures, c.get-in-Item-2.ensures))) (made-is refl (tree.place_node_of-Item _ _ _ _ refl) refl (made-two (P.item_at c.args.e.now.line.0) (λ m. narrow_exp m (V.exp_of c.get-in-Item-2.result.now)) c.in_ok-object-in-Item.ensures c.in_ok-index-in-Item.ensures))

pub returns-in_err-object-in-Attribute : goal.returns-in_err-object-in-Attribute
returns-in_err-object-in-Attribute c = grind (arith, leaves, wide.exp_of-Attribute c.args.e.now _ _ c.in-Attribute.is)

pub returns-in_err-object-in-Item : goal.returns-in_err-object-in-Item
returns-in_err-object-in-Item c = grind (arith, leaves, wide.exp_of-Item c.args.e.now _ _ c.in-Item.is)

pub returns-in_err-index-in-Item : goal.returns-in_err-index-in-Item
returns-in_err-index-in-Item c = grind (arith, leaves, wide.exp_of-Item c.args.e.now _ _ c.in-Item.is)

pub returns-in_default : goal.returns-in_default
returns-in_default c = λ out. not-some (narrow_place c.args.n.now (V.exp_of c.args.e.now)) (agreed (agrees-place c.args.n.now (V.exp_of c.args.e.now)) ∙ ap is_clean (place-other c.args.e.now (c.in_default.not-Name, c.in_default.not-Attribute, c.in_default.not-Item)))
