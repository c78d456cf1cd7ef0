use Rattle.std.proofs.Common.{◌≡◌, ◌∙◌, ◌+◌, ◌∷◌, drop, map, ap, sym}
use Rattle.std.proofs.lemmas.List.{drop_more}
use Rattle.std.proofs.lemmas.Result.{on_ok_weaker}
use Rattle.pt_tree.proofs.Folds.{target_of-Place}
use Rattle.pt_tree.specs.Fold.{target_of, targets_of}
use Rattle.pt_tree.specs.Syntax.{Tgt}
use Rattle.pt_tree.specs.declared.expression.Target.{Target}
use Rattle.sem_control.specs.control.Expressions.{target_names, all_target_names}
use Rattle.pt_assembler.specs.Layout.{Written}
use Rattle.pt_expr_forms.specs.Loops.{behind_renewal}
use Rattle.pt_write_leaves.proofs.LoopLemmas.{renewal-append}
use Rattle.pt_write_leaves.proofs.renewal.+renewal.Goals as goal

pub renew_target-returns-in-Place : goal.renew_target-returns-in-Place
renew_target-returns-in-Place t c =
    let written : Tgt → Written = λ g. behind_renewal c.args.at.now.names.now c.args.at.now.within.now (target_names g) c.args.w.now in
    on_ok_weaker c.renew_place.result (λ is. is c.args.target.now.line.0
    ∙ sym (ap written (target_of-Place c.args.target.now c.in-Place.place c.in-Place.is))) c.renew_place.ensures

pub renew_targets-loop-target-preserved : goal.renew_targets-loop-target-preserved
renew_targets-loop-target-preserved t c =
    let b = c.args.at.now.names.now in
    let ns = c.args.at.now.within.now in
    let x : Target = c.target-item.result in
    let k = c.loop-target.target-index in
    let ts = c.args.targets.now in
    let left : drop k ts ≡ x ∷ drop (k + 1) ts = drop_more ts k x c.loop-target-test.true ∙ ap (λ y. y ∷ drop (k + 1) ts) (sym c.target-item.is) in
    ap (λ u. behind_renewal b ns (all_target_names (targets_of (map target_of (drop (k + 1) ts)))) u) c.in_ok-renew_target.ensures
    ∙ sym (renewal-append b ns (target_names (target_of x)) (all_target_names (targets_of (map target_of (drop (k + 1) ts)))) c.loop-target.w)
    ∙ sym (ap (λ qs. behind_renewal b ns (all_target_names (targets_of (map target_of qs))) c.loop-target.w) left)
    ∙ c.loop-target.invariant
