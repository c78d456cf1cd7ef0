use Rattle.std.proofs.Common.{◌<◌, arith}
use Rattle.pt_kinds.proofs.WayLemmas.{length_is, low_inside}
use Rattle.pt_kinds.proofs.CommonLemmas.{run_whole, run_part}
use Rattle.pt_kinds.proofs.forest.Forest.run_at.Goals as goal

pub returns-then-top-depth : goal.returns-then-top-depth
returns-then-top-depth c = run_whole c.args.self.now c.requires.forest c.args.list c.args.depth c.floor.result c.floor.ensures c.at-top.result c.at-top.ensures c.if-top-depth.true

pub at-below-requires : goal.at-below-requires
at-below-requires c = low_inside c.args.self.now c.requires.forest c.floor.result c.at-top.result c.floor.ensures.inside c.at-top.ensures

pub returns : goal.returns
returns c = run_part c.args.self.now c.requires.forest c.args.list c.args.depth c.floor.result c.floor.ensures c.at-top.result c.at-top.ensures
    (let h : c.args.depth < c.at-top.result.length = omega (arith, c.if-top-depth.false) in h) c.at-below.result.length c.saturating_sub.result
    (length_is c.args.self.now c.requires.forest c.at-top.result.parent c.at-below.result c.at-below.ensures) c.saturating_sub.ensures
