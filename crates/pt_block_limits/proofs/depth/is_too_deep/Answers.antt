use Rattle.std.proofs.Common.{◌≡◌, Some}
use Rattle.pt_sizes.specs.Flow.{entry}
use Rattle.pt_block_limits.proofs.DepthLemmas.{is_deep, none_deep}
use Rattle.pt_block_limits.proofs.depth.is_too_deep.Goals as goal

pub returns-in-loop-place : goal.returns-in-loop-place
returns-in-loop-place c = λ b are.
    let e : entry c.args.sizes.now c.loop-place.place ≡ Some c.in-Some.size = c.in-Some.is in
    is_deep b c.args.sizes.now are c.loop-place.place c.in-Some.size e c.if-size-gt-MOST.true

pub returns : goal.returns
returns c = λ b are. none_deep b c.args.sizes.now are c.loop-place.place c.loop-place-test.false c.loop-place.invariant
