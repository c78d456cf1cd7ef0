use Rattle.std.proofs.Common.{◌≡◌, arith, subst, refl}
use Rattle.pt_heap.specs.Holes.{AreHoles}
use Rattle.pt_heap.proofs.HoleLemmas.{AreHoles-more, AreHoles-within}
use Rattle.pt_heap.proofs.items.past_holes.Goals as goal

pub loop-at-preserved : goal.loop-at-preserved
loop-at-preserved c =
    AreHoles-more c.loop-at.at c.args.items.now.entries c.loop-at.invariant (omega (arith, c.len-at-end.ensures.len)) (c.if-not-is_hole.ensures.0 refl)

pub returns : goal.returns
returns c =
    let within = AreHoles-within c.args.from c.args.items.now.entries c.requires in
    let end : c.loop-at.at ≡ c.len.result = omega (arith, within, c.len.ensures.len, c.len-at-end.ensures.len) in
    subst (λ n. AreHoles n c.args.items.now.entries) end c.loop-at.invariant
