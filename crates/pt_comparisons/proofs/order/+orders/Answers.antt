use Rattle.std.proofs.Common.{◌≡◌, ◌∙◌, ◌-◌, IfOk, ap, subst, sym, arith}
use Rattle.pt_comparisons.specs.Orders.{item_order, items_order, order_by_difference}
use Rattle.pt_comparisons.proofs.OrderLemmas.{deep, one-less}
use Rattle.pt_comparisons.proofs.order.+orders.Goals as goal

pub items_order-returns-then-depth-eq0 : goal.items_order-returns-then-depth-eq0
items_order-returns-then-depth-eq0 t c =
    let h = c.args.heap.now in
    subst (λ x. IfOk c.equality_answer.result (λ content. content ≡ x))
    (sym (ap (λ d. items_order c.args.op h d c.args.a.now c.args.b.now) c.if-depth-eq0.true ∙ deep c.args.op h c.args.a.now c.args.b.now))
    c.equality_answer.ensures

pub items_order-returns : goal.items_order-returns
items_order-returns t c =
    let h = c.args.heap.now in
    let item = item_order c.args.op (items_order c.args.op h (c.args.depth - 1)) h in
    subst (λ x. IfOk c.order_by_difference.result (λ content. content ≡ x))
    (ap (order_by_difference c.args.op item c.args.a.now c.args.b.now) c.first_difference-difference.ensures
    ∙ sym (one-less c.args.op h c.args.depth c.args.a.now c.args.b.now (omega (arith, c.if-depth-eq0.false))))
    c.order_by_difference.ensures
