-- The order of two lists of items, by how many containers may still stand inside one another.
use Rattle.std.proofs.Common.{◌≡◌, ◌-◌, ◌<◌, ℕ, zero, suc, List, [], ◌∷◌, refl, ap, arith}
use Rattle.pt_base.specs.declared.operators.CompareOp.{CompareOp}
use Rattle.pt_heap.specs.declared.value.Value.{Value}
use Rattle.pt_heap.specs.declared.object.Object.{Object}
use Rattle.pt_comparisons.specs.declared.equality.Equality.{Equality}
use Rattle.pt_comparisons.specs.declared.equality.Equality.TheVariants.{Deep}
use Rattle.pt_comparisons.specs.declared.order.Difference.TheVariants.{Nowhere}
use Rattle.pt_comparisons.specs.Equalities.{insides_equality, item_equality}
use Rattle.pt_comparisons.specs.Membership.{equality_answer}
use Rattle.pt_comparisons.specs.Orders.{first_difference, item_order, items_order, order_by_difference}

pub from-nothing : (item : Value → Value → Equality) (vs : List Value) → first_difference item vs [] ≡ Nowhere
from-nothing item [] = refl
from-nothing item (v ∷ vs) = refl

pub deep : (op : CompareOp) (h : List Object) (vs ws : List Value) → items_order op h 0 vs ws ≡ equality_answer Deep
unfolding items_order
deep op h vs ws = refl

pub one-less : (op : CompareOp) (h : List Object) (depth : ℕ) (vs ws : List Value) → 0 < depth
    → items_order op h depth vs ws
    ≡ order_by_difference op (item_order op (items_order op h (depth - 1)) h) vs ws (first_difference (item_equality (insides_equality h (depth - 1)) h) vs ws)
unfolding items_order
one-less op h zero vs ws l = absurd (omega (arith, l))
one-less op h (suc depth) vs ws l =
    let less : depth ≡ suc depth - 1 = omega arith in
    ap (λ d. order_by_difference op (item_order op (items_order op h d) h) vs ws (first_difference (item_equality (insides_equality h d) h) vs ws)) less
