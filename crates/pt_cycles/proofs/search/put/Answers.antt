use Rattle.std.proofs.Common.{subst, arith, ◌≡◌, ◌<◌, length}
use Rattle.pt_cycles.specs.Search.{at, IsPut}
use Rattle.pt_cycles.proofs.Cutting.{put_start, put_more}
use Rattle.pt_cycles.proofs.search.put.Goals as goal

pub loop-place-init : goal.loop-place-init
loop-place-init c = put_start c.args.component c.args.start c.args.path.now c.args.states.now.items c.args.states.now.items

pub index_mut-requires : goal.index_mut-requires
index_mut-requires c = let h : at c.args.path.now c.loop-place.place < length c.args.states.now.items =
    c.requires.inside c.loop-place.place c.loop-place-test.true in
    omega (arith, h, c.loop-place.invariant.long)

pub loop-place-preserved : goal.loop-place-preserved
loop-place-preserved c = let h : at c.args.path.now c.loop-place.place < length c.args.states.now.items =
    c.requires.inside c.loop-place.place c.loop-place-test.true in
    put_more c.args.component c.args.start c.args.path.now c.args.states.now.items c.loop-place.states.items c.loop-place.place c.loop-place.invariant
    c.loop-place.auto.place
    (omega (arith, h, c.loop-place.invariant.long))

pub returns : goal.returns
returns c =
    let e : c.loop-place.place ≡ length c.args.path.now = omega (arith, c.loop-place-test.false, c.loop-place.auto.place-end, c.requires.below) in
    subst (λ n. IsPut c.args.component c.args.start n c.args.path.now c.args.states.now.items c.loop-place.states.items) e c.loop-place.invariant
