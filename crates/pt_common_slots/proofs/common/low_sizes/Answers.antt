use Rattle.std.proofs.Common.{◌≡◌, ◌∙◌, ◌∷◌, ◌++◌, [], None, length, take, ap, sym, subst, arith}
use Rattle.std.proofs.lemmas.List.{length-take-le, take_more}
use Rattle.pt_sizes.specs.Flow.{entry}
use Rattle.pt_common_slots.specs.Joins.{AreLowSizes, low_size}
use Rattle.pt_common_slots.proofs.Low.{low_more}
use Rattle.pt_common_slots.proofs.common.low_sizes.Goals as goal

pub loop-at-preserved : goal.loop-at-preserved
loop-at-preserved c =
    let sizes = c.args.sizes.now in let at = c.loop-at.at in let low = c.loop-at.low.items in
    let inside = c.loop-at-test.true in
    let long : length (take at sizes) ≡ at = length-take-le at sizes (omega (arith, inside)) in
    let is : c.push.new.self.items ≡ low ++ low_size c.args.limit (length (take at sizes)) (entry sizes at) ∷ [] =
    c.in_ok-push.ensures.items ∙ (ap (λ o. low ++ o ∷ []) c.low_size.ensures
    ∙ ap (λ n. low ++ low_size c.args.limit n (entry sizes at) ∷ []) (sym long)) in
    subst (λ xs. AreLowSizes c.args.limit xs c.push.new.self.items) (sym (take_more sizes at None inside))
    (subst (λ ys. AreLowSizes c.args.limit (take at sizes ++ entry sizes at ∷ []) ys) (sym is)
    (low_more c.args.limit (take at sizes) low c.loop-at.invariant (entry sizes at)))
