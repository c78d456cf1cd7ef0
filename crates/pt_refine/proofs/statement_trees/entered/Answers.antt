use Rattle.std.proofs.Common.{◌≡◌, ◌∙◌, ◌+◌, ◌∷◌, ap, arith, drop, refl, sym}
use Rattle.pt_tree.specs.StatementFold as T
use Rattle.pt_tree.specs.Syntax as P
use Rattle.pt_wide.specs.Fold as V
use Rattle.pt_wide.specs.StatementFold.{items_of}
use Rattle.pt_refine_expr.specs.Blocks.{blocks_exp, blocks_opt}
use Rattle.pt_refine_expr.specs.Narrow.{narrow_exp}
use Rattle.pt_refine_expr.specs.Ways.{three}
use Rattle.pt_refine_expr.specs.StatementBlocks.{blocks_items}
use Rattle.pt_refine_expr.specs.StatementNarrow.{narrow_as, narrow_items}
use Rattle.pt_refine_expr.proofs.Building.{left-at, left-none, left-out, made-is, three-is, three-none-second, walk-end, walk-left, walk-step}
use Rattle.pt_refine.proofs.StatementBuilding.{items-chained}
use Rattle.pt_refine.proofs.statement_trees.entered.Goals as goal

pub loop-item-preserved : goal.loop-item-preserved
loop-item-preserved c =
    let left : drop c.loop-item.item-index c.args.items.now ≡ c.item-item.result ∷ drop (c.loop-item.item-index + 1) c.args.items.now = left-at c.args.items.now c.loop-item.item-index c.item-item.result c.loop-item-test.true c.item-item.is in
    walk-step _ c.loop-item.invariant c.in_ok-push.ensures.ok
    (ap (λ is. narrow_items c.loop-item.n (items_of is)) left ∙ three-is (P.with_item c.item-item.result.line.0) (λ m. narrow_as m (V.opt_exp c.item-item.result.target)) (λ m. narrow_items m (items_of (drop (c.loop-item.item-index + 1) c.args.items.now))) c.in_ok-context.ensures c.in_ok-target.ensures)
    (ap (λ is. c.loop-item.n + blocks_items (items_of is)) left ∙ omega (arith, (c.in_ok-context.ensures).after, (c.in_ok-target.ensures).after))

pub returns : goal.returns
returns c = made-is refl (sym (items-chained c.loop-item.made)) refl (walk-end P.no_items c.loop-item.invariant (left-none (λ is. narrow_items c.loop-item.n (items_of is)) c.args.items.now c.loop-item.item-index c.loop-item-test.false) (left-none (λ is. blocks_items (items_of is)) c.args.items.now c.loop-item.item-index c.loop-item-test.false))

pub returns-in_err-context : goal.returns-in_err-context
returns-in_err-context c =
    let left : drop c.loop-item.item-index c.args.items.now ≡ c.item-item.result ∷ drop (c.loop-item.item-index + 1) c.args.items.now = left-at c.args.items.now c.loop-item.item-index c.item-item.result c.loop-item-test.true c.item-item.is in
    let context = V.exp_of c.item-item.result.context in
    let behind = narrow_items (c.loop-item.n + blocks_exp context + blocks_opt (V.opt_exp c.item-item.result.target)) (items_of (drop (c.loop-item.item-index + 1) c.args.items.now)) in
    left-out T.items_of c.from_residual.result _ _ (narrow_items c.args.n.now (items_of c.args.items.now)) c.args.n.now (blocks_items (items_of c.args.items.now)) _ c.from_residual.ensures.1 c.in_err-context.ensures
    (λ none. walk-left c.loop-item.invariant (ap (λ is. narrow_items c.loop-item.n (items_of is)) left ∙ ap (λ o. three (P.with_item c.item-item.result.line.0) o (narrow_as (c.loop-item.n + blocks_exp context) (V.opt_exp c.item-item.result.target)) behind) none))

pub returns-in_err-target : goal.returns-in_err-target
returns-in_err-target c =
    let left : drop c.loop-item.item-index c.args.items.now ≡ c.item-item.result ∷ drop (c.loop-item.item-index + 1) c.args.items.now = left-at c.args.items.now c.loop-item.item-index c.item-item.result c.loop-item-test.true c.item-item.is in
    let context = V.exp_of c.item-item.result.context in
    let behind = narrow_items (c.loop-item.n + blocks_exp context + blocks_opt (V.opt_exp c.item-item.result.target)) (items_of (drop (c.loop-item.item-index + 1) c.args.items.now)) in
    left-out T.items_of c.from_residual-in_err-target.result _ _ (narrow_items c.args.n.now (items_of c.args.items.now)) c.args.n.now (blocks_items (items_of c.args.items.now)) _ c.from_residual-in_err-target.ensures.1 c.in_err-target.ensures
    (λ none. walk-left c.loop-item.invariant (ap (λ is. narrow_items c.loop-item.n (items_of is)) left ∙ ap (λ t. three (P.with_item c.item-item.result.line.0) (narrow_exp c.loop-item.n context) (narrow_as t (V.opt_exp c.item-item.result.target)) behind) (sym c.in_ok-context.ensures.after) ∙ ap (λ o. three (P.with_item c.item-item.result.line.0) (narrow_exp c.loop-item.n context) o behind) none ∙ three-none-second (P.with_item c.item-item.result.line.0) (narrow_exp c.loop-item.n context) behind))
