use Rattle.std.proofs.Common.{◌≡◌, ◌∙◌, ◌+◌, ◌∷◌, ap, arith, drop, refl, sym}
use Rattle.pt_tree.specs.Syntax as P
use Rattle.pt_wide.specs.StatementFold.{decorators_of}
use Rattle.pt_refine_expr.specs.StatementBlocks.{blocks_decorators}
use Rattle.pt_refine_expr.specs.StatementNarrow.{narrow_decorators}
use Rattle.pt_refine_expr.proofs.Building.{both-is, left-at, left-none, made-is, walk-end, walk-step}
use Rattle.pt_refine.proofs.StatementBuilding.{decorators-chained}
use Rattle.pt_refine.proofs.statement_trees.decorators.Goals as goal

pub loop-item-preserved : goal.loop-item-preserved
loop-item-preserved c =
    let left : drop c.loop-item.item-index c.args.items.now ≡ c.item-item.result ∷ drop (c.loop-item.item-index + 1) c.args.items.now = left-at c.args.items.now c.loop-item.item-index c.item-item.result c.loop-item-test.true c.item-item.is in
    walk-step _ c.loop-item.invariant c.in_ok-push.ensures.ok
    (ap (λ ds. narrow_decorators c.loop-item.n (decorators_of ds)) left ∙ both-is (P.decorator c.item-item.result.line.0) (λ m. narrow_decorators m (decorators_of (drop (c.loop-item.item-index + 1) c.args.items.now))) c.in_ok-value.ensures)
    (ap (λ ds. c.loop-item.n + blocks_decorators (decorators_of ds)) left ∙ omega (arith, (c.in_ok-value.ensures).after))

pub returns : goal.returns
returns c = made-is refl (sym (decorators-chained c.loop-item.made)) refl (walk-end P.no_decorators c.loop-item.invariant (left-none (λ ds. narrow_decorators c.loop-item.n (decorators_of ds)) c.args.items.now c.loop-item.item-index c.loop-item-test.false) (left-none (λ ds. blocks_decorators (decorators_of ds)) c.args.items.now c.loop-item.item-index c.loop-item-test.false))
