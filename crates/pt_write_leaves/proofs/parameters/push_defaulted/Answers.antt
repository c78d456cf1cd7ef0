use Rattle.std.proofs.Common.{◌≡◌, ◌∙◌, ◌+◌, ◌∷◌, drop, map, ap, sym, arith}
use Rattle.std.proofs.lemmas.Grind.{common_steps}
use Rattle.std.proofs.lemmas.List.{drop_more}
use Rattle.pt_tree.specs.Syntax.{no_formals}
use Rattle.pt_tree.specs.Fold.{chained, formal_of}
use Rattle.pt_tree.specs.declared.expression.Parameter.{Parameter, out-Parameter}
use Rattle.sem_control.specs.control.Expressions.{defaulted}
use Rattle.pt_write_leaves.proofs.DefaultLemmas.{defaulted-given, defaulted-absent}
use Rattle.pt_write_leaves.proofs.parameters.push_defaulted.Goals as goal
use Rattle.pt_write_leaves.proofs.parameters.push_defaulted.Goals.{then-is_some+in_ok-spelled+in_ok-push, else-is_some}

pub loop-parameter-preserved : goal.loop-parameter-preserved
loop-parameter-preserved c =
    let p : Parameter = c.parameter-item.result in
    let i = c.loop-parameter.parameter-index in
    let ps = c.args.parameters.now in
    let left : drop i ps ≡ p ∷ drop (i + 1) ps = drop_more ps i p c.loop-parameter-test.true ∙ ap (λ q. q ∷ drop (i + 1) ps) (sym c.parameter-item.is) in
    let before : defaulted (chained no_formals (map formal_of (drop i ps))) ≡ defaulted (formal_of p (chained no_formals (map formal_of (drop (i + 1) ps))))
    = ap (λ qs. defaulted (chained no_formals (map formal_of qs))) left in
    elim c.if-is_some.branch [
      | then-is_some+in_ok-spelled+in_ok-push w ↦
          let found : defaulted (formal_of p (chained no_formals (map formal_of (drop (i + 1) ps)))) ≡ (out-Parameter p).name ∷ defaulted (chained no_formals (map formal_of (drop (i + 1) ps)))
          = defaulted-given p (chained no_formals (map formal_of (drop (i + 1) ps))) (sym c.is_some.ensures ∙ w.if-is_some.true) in
          grind (arith, common_steps)
      | else-is_some w ↦
          let found : defaulted (formal_of p (chained no_formals (map formal_of (drop (i + 1) ps)))) ≡ defaulted (chained no_formals (map formal_of (drop (i + 1) ps)))
          = defaulted-absent p (chained no_formals (map formal_of (drop (i + 1) ps))) (sym c.is_some.ensures ∙ w.if-is_some.false) in
          grind (arith, common_steps)
    ]
