use Rattle.std.proofs.Common.{◌≡◌, ◌∙◌, ◌+◌, ◌∷◌, ap, arith, drop, refl, sym}
use Rattle.pt_tree.specs.Syntax as P
use Rattle.pt_refine_expr.specs.Blocks.{blocks_all}
use Rattle.pt_refine_expr.specs.Narrowed.{wide_exps}
use Rattle.pt_refine_expr.specs.StatementNarrow.{narrow_assigned}
use Rattle.pt_refine_expr.proofs.Building.{both-is, left-at, left-none, made-is, targets-chained, walk-end, walk-step}
use Rattle.pt_refine.proofs.statement_trees.assigned.Goals as goal

pub loop-item-preserved : goal.loop-item-preserved
loop-item-preserved c =
    let left : drop c.loop-item.item-index c.args.items.now ≡ c.item-item.result ∷ drop (c.loop-item.item-index + 1) c.args.items.now = left-at c.args.items.now c.loop-item.item-index c.item-item.result c.loop-item-test.true c.item-item.is in
    walk-step c.in_ok-one.one c.loop-item.invariant c.in_ok-push.ensures.ok
    (ap (λ es. narrow_assigned c.loop-item.n (wide_exps es)) left ∙ both-is P.more_targets (λ m. narrow_assigned m (wide_exps (drop (c.loop-item.item-index + 1) c.args.items.now))) c.in_ok-one.ensures)
    (ap (λ es. c.loop-item.n + blocks_all (wide_exps es)) left ∙ omega (arith, (c.in_ok-one.ensures).after))

pub returns : goal.returns
returns c = made-is refl (sym (targets-chained c.loop-item.made)) refl (walk-end P.no_targets c.loop-item.invariant (left-none (λ es. narrow_assigned c.loop-item.n (wide_exps es)) c.args.items.now c.loop-item.item-index c.loop-item-test.false) (left-none (λ es. blocks_all (wide_exps es)) c.args.items.now c.loop-item.item-index c.loop-item-test.false))
