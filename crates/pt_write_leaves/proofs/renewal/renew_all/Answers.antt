use Rattle.std.proofs.Common.{◌≡◌, ◌∙◌, ◌+◌, ◌∷◌, ◌++◌, drop, map, ap, sym}
use Rattle.std.proofs.lemmas.List.{drop_more}
use Rattle.pt_tree.proofs.Folds.{clause_of-parts}
use Rattle.pt_tree.specs.Fold.{ClauseOf, clause_of, clauses_of}
use Rattle.pt_tree.specs.declared.expression.Clause.{Clause}
use Rattle.sem_control.specs.control.Expressions.{target_names, clause_names}
use Rattle.pt_expr_forms.specs.Loops.{behind_renewal}
use Rattle.pt_write_leaves.proofs.LoopLemmas.{renewal-append, clause_names-conditions}
use Rattle.pt_write_leaves.proofs.renewal.renew_all.Goals as goal

pub loop-clause-init : goal.loop-clause-init
loop-clause-init c =
    let b = c.args.at.now.names.now in
    let ns = c.args.at.now.within.now in
    let f : ClauseOf = clause_of c.args.first.now in
    let cs = map clause_of c.args.rest.now in
    ap (λ u. behind_renewal b ns (clause_names (clauses_of cs)) u) (c.in_ok-renew_target.ensures
    ∙ sym (ap (λ (x : ClauseOf). behind_renewal b ns (target_names x.target) c.args.w.now) (clause_of-parts c.args.first.now)))
    ∙ sym (renewal-append b ns (target_names f.target) (clause_names (clauses_of cs)) c.args.w.now)
    ∙ sym (ap (λ xs. behind_renewal b ns (target_names f.target ++ xs) c.args.w.now) (clause_names-conditions f.conditions (clauses_of cs)))

pub loop-clause-preserved : goal.loop-clause-preserved
loop-clause-preserved c =
    let b = c.args.at.now.names.now in
    let ns = c.args.at.now.within.now in
    let x : Clause = c.clause-item.result in
    let k = c.loop-clause.clause-index in
    let xs = c.args.rest.now in
    let cs = map clause_of (drop (k + 1) xs) in
    let left : drop k xs ≡ x ∷ drop (k + 1) xs = drop_more xs k x c.loop-clause-test.true ∙ ap (λ y. y ∷ drop (k + 1) xs) (sym c.clause-item.is) in
    ap (λ u. behind_renewal b ns (clause_names (clauses_of cs)) u) (c.in_ok-renew_target-2.ensures
    ∙ sym (ap (λ (y : ClauseOf). behind_renewal b ns (target_names y.target) c.loop-clause.w) (clause_of-parts x)))
    ∙ sym (renewal-append b ns (target_names (clause_of x).target) (clause_names (clauses_of cs)) c.loop-clause.w)
    ∙ sym (ap (λ ys. behind_renewal b ns (target_names (clause_of x).target ++ ys) c.loop-clause.w) (clause_names-conditions (clause_of x).conditions (clauses_of cs)))
    ∙ sym (ap (λ qs. behind_renewal b ns (clause_names (clauses_of (map clause_of qs))) c.loop-clause.w) left)
    ∙ c.loop-clause.invariant
