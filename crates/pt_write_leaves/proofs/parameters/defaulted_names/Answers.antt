use Rattle.std.proofs.Common.{◌≡◌, ◌∙◌, ◌++◌, List, map, ap, sym}
use Rattle.std.proofs.lemmas.List.{map-append}
use Rattle.pt_tree.proofs.Folds.{parameters_of-parts}
use Rattle.pt_tree.specs.Syntax.{Formals, Name, Params, parameters, no_formals}
use Rattle.pt_tree.specs.Fold.{chained, formal_of, parameters_of}
use Rattle.pt_tree.specs.declared.expression.Parameter.{Parameter}
use Rattle.pt_tree.specs.declared.expression.Parameters.{out-Parameters}
use Rattle.sem_control.specs.control.Expressions.{defaulted, all_defaulted}
use Rattle.pt_expr_forms.specs.Behind.{known}
use Rattle.pt_write_leaves.proofs.parameters.defaulted_names.Goals as goal

pub returns : goal.returns
returns c =
    let m : Name → Name = (known c.args.names.now).spelled in
    let o = out-Parameters c.args.parameters.now in
    let formals : List Parameter → Formals = λ ps. chained no_formals (map formal_of ps) in
    let ps = c.as_slice.result.now in
    let ks = c.as_slice-2.result.now in
    let parts : parameters_of c.args.parameters.now ≡ parameters (formals ps) o.star (formals ks) o.double_star
    = parameters_of-parts c.args.parameters.now
    ∙ ap (λ (qs : List Parameter). parameters (formals qs) o.star (formals o.keyword_only) o.double_star) (sym c.as_slice.ensures)
    ∙ ap (λ (qs : List Parameter). parameters (formals ps) o.star (formals qs) o.double_star) (sym c.as_slice-2.ensures) in
    c.in_ok-push_defaulted-2.ensures
    ∙ ap (λ (xs : List Name). xs ++ map m (defaulted (formals ks))) (c.in_ok-push_defaulted.ensures ∙ ap (λ (xs : List Name). xs ++ map m (defaulted (formals ps))) c.new-into.ensures)
    ∙ sym (map-append m (defaulted (formals ps)) (defaulted (formals ks)))
    ∙ sym (ap (λ (q : Params). map m (all_defaulted q)) parts)
