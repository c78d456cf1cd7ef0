use Rattle.std.proofs.Common.{◌∙◌, [], ap, sym}
use Rattle.std.proofs.lemmas.Result.{on_ok_weaker}
use Rattle.pt_tree.proofs.Folds.{place_node_of-Name, place_node_of-Attribute, place_node_of-Item}
use Rattle.pt_tree.specs.Syntax.{Place, single}
use Rattle.sem_control.specs.control.Turn.{Variable}
use Rattle.sem_control.specs.control.Expressions.{target_names}
use Rattle.pt_assembler.specs.Piece.{move}
use Rattle.pt_assembler.specs.Layout.{Written, layout}
use Rattle.pt_write_ops.specs.sem_compile.emitter.Ops.{renew}
use Rattle.pt_expr_forms.specs.Behind.{known, numbers}
use Rattle.pt_expr_forms.specs.Loops.{behind_renewal}
use Rattle.pt_write_leaves.proofs.renewal.renew_place.Goals as goal

pub returns-in_ok-variable-in-Name : goal.returns-in_ok-variable-in-Name
returns-in_ok-variable-in-Name c =
    let b = c.args.at.now.names.now in
    let ns = c.args.at.now.within.now in
    let written : Place → Written = λ p. behind_renewal b ns (target_names (single p)) c.args.w.now in
    on_ok_weaker c.renew.result (λ is l. is
    ∙ ap (λ (u : Variable). layout (move (renew u)) [] c.args.w.now)
    (c.in_ok-variable-in-Name.ensures ∙ ap (λ x. (known b).variable (numbers ns) x) c.as_str.ensures)
    ∙ sym (ap written (place_node_of-Name c.args.place.now l c.in-Name.name c.in-Name.is))) c.renew.ensures.code

pub returns-in-Attribute : goal.returns-in-Attribute
returns-in-Attribute c = λ l. sym (ap (λ (p : Place). behind_renewal c.args.at.now.names.now c.args.at.now.within.now (target_names (single p)) c.args.w.now)
    (place_node_of-Attribute c.args.place.now l _ _ c.in-Attribute.is))

pub returns-in-Item : goal.returns-in-Item
returns-in-Item c = λ l. sym (ap (λ (p : Place). behind_renewal c.args.at.now.names.now c.args.at.now.within.now (target_names (single p)) c.args.w.now)
    (place_node_of-Item c.args.place.now l _ _ c.in-Item.is))
