use Rattle.std.proofs.Common.{◌≡◌, ◌∙◌, [], drop, ap, sym}
use Rattle.std.proofs.lemmas.List.{nil_from_length}
use Rattle.pt_comparisons.specs.Equalities.{insides_equality, item_equality}
use Rattle.pt_comparisons.specs.Orders.{first_difference}
use Rattle.pt_comparisons.proofs.OrderLemmas.{from-nothing}
use Rattle.pt_comparisons.proofs.order.first_difference.Goals as goal

pub returns-in_default : goal.returns-in_default
returns-in_default c =
    let item = item_equality (insides_equality c.args.heap.now c.args.depth) c.args.heap.now in
    let left = drop c.loop-item.item-index c.args.a.now in
    let none : c.loop-item.others.now ≡ [] = nil_from_length c.loop-item.others.now c.in_default.ensures.cases in
    sym (sym c.loop-item.invariant ∙ ap (first_difference item left) none ∙ from-nothing item left)
