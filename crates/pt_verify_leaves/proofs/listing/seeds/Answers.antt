use Rattle.std.proofs.Common.{◌≡◌, ◌∙◌, ◌++◌, ap, subst, arith}
use Rattle.pt_sizes.specs.Flow.{entry}
use Rattle.pt_verify_leaves.specs.Onto.{ListsBelow, seed_at}
use Rattle.pt_verify_leaves.proofs.Parts.{below_start, below_more, knows_at, same_seed}
use Rattle.pt_verify_leaves.proofs.listing.seeds.Goals as goal

pub loop-at-init : goal.loop-at-init
loop-at-init c = λ rows k. below_start _ c.new-seeds.result.items c.new-seeds.ensures.items

pub loop-at-preserved : goal.loop-at-preserved
loop-at-preserved c = λ rows k.
    let at = c.loop-at.at in
    let classes = c.args.classes.now in
    let sizes = c.args.sizes.now in
    let places = c.args.places.now in
    let same : c.in_ok-pc.pc.0 ≡ at = c.in_ok-pc.ensures in
    let here = c.at.ensures ∙ ap (λ q. entry places q) same in
    let known = knows_at places rows c.args.takers.now k at c.in_ok-pc.pc.0 same here in
    below_more (λ pc. seed_at rows classes pc (entry places pc) (entry sizes pc)) at c.loop-at.seeds.items c.add_seed.new.seeds.items
    (c.loop-at.invariant rows k)
    (c.in_ok-add_seed.ensures rows known ∙ ap (λ ps. c.loop-at.seeds.items ++ ps)
    (same_seed rows classes c.in_ok-pc.pc.0 at (entry sizes at) same here))

pub returns : goal.returns
returns c = λ rows k.
    let e : c.loop-at.at ≡ c.args.end = omega (arith, c.loop-at-test.false, c.loop-at.auto.at-end) in
    subst (λ n. ListsBelow (λ pc. seed_at rows c.args.classes.now pc (entry c.args.places.now pc) (entry c.args.sizes.now pc)) n c.loop-at.seeds.items) e
    (c.loop-at.invariant rows k)
