use Rattle.std.proofs.Common.{◌∙◌, ◌+◌, ◌-◌, [], ◌∷◌, ◌++◌, ap, sym, arith, append_assoc}
use Rattle.pt_heap.specs.declared.value.Value.TheVariants.{Obj}
use Rattle.pt_content.specs.Changes.{places_from}
use Rattle.pt_content.proofs.ChangeLemmas.{places-more}
use Rattle.pt_text_operations.proofs.lists.places.Goals as goal

pub loop-place-preserved : goal.loop-place-preserved
loop-place-preserved c =
    let p = c.loop-place.place in
    let m = c.args.end - (p + 1) in
    let more = places-more p (c.args.end - p) m (omega (arith, c.loop-place-test.true)) in
    ap (λ l. l ++ places_from (p + 1) m) c.in_ok-push.ensures.ok ∙ append_assoc c.loop-place.values (Obj (record { 0 = p }) ∷ []) (places_from (p + 1) m) ∙ ap (λ l. c.loop-place.values ++ l) (sym more) ∙ c.loop-place.invariant
