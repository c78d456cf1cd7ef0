use Rattle.std.proofs.Common.{◌≡◌, ◌∙◌, ◌<◌, ℕ, zero, suc, false, List, [], ◌∷◌, drop, length, ap, sym, refl, arith}
use Rattle.std.proofs.lemmas.List.{nil_from_length}
use Rattle.pt_heap.specs.declared.value.Value.{Value}
use Rattle.pt_heap.specs.declared.object.Object.{Object}
use Rattle.pt_sorting.specs.Keys.{rows_alike}
use Rattle.pt_sorting.proofs.keys.rows_alike.Goals as goal

-- one that goes on isn't as long as one that ended
goes-on : (h : List Object) (i : ℕ) (vs : List Value) → i < length vs → rows_alike h (drop i vs) [] ≡ false
goes-on h zero [] l = absurd (omega arith)
goes-on h zero (v ∷ vs) l = refl
goes-on h (suc i) [] l = absurd (omega arith)
goes-on h (suc i) (v ∷ vs) l = goes-on h i vs (omega arith)

pub returns-in_default : goal.returns-in_default
returns-in_default c =
    let left = drop c.loop-item.item-index c.args.first.now in
    let none : c.loop-item.others.now ≡ [] = nil_from_length c.loop-item.others.now c.in_default.ensures.cases in
    let within : c.loop-item.item-index < length c.args.first.now = omega arith in
    sym (goes-on c.args.heap.now c.loop-item.item-index c.args.first.now within) ∙ ap (rows_alike c.args.heap.now left) (sym none) ∙ c.loop-item.invariant
