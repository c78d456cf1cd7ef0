use Rattle.std.proofs.Common.{arith}
use Rattle.sem_fits.specs.fits.Block.{links_of}
use Rattle.pt_block_kinds.proofs.Missing.{astray_in}
use Rattle.pt_block_kinds.proofs.graph.BlockKinds.any_astray.Goals as goal

pub returns-then-at-limit : goal.returns-then-at-limit
returns-then-at-limit c = λ x. c.loop-at.invariant x.pc (let l = x.low in omega (arith, l, c.if-at-limit.true)) x.here

pub returns : goal.returns
returns c = λ x. c.loop-at.invariant x.pc
    (let l = astray_in c.args.self.now.flow (links_of c.args.code.now) c.args.places.now c.args.sizes.now x.pc x.here in omega (arith, l, c.loop-at-test.false, c.loop-at.auto.at-end)) x.here
