use Rattle.std.proofs.Common.{◌<◌, refl, arith}
use Rattle.std.specs.Prelude.{nat_le}
use Rattle.pt_kinds.proofs.WayLemmas.{low_inside, told_above}
use Rattle.pt_kinds.proofs.forest.Forest.is_above.Goals as goal

pub at-below-requires : goal.at-below-requires
at-below-requires c = low_inside c.args.self.now c.requires.forest c.args.node c.at.result c.requires.inside c.at.ensures

pub returns : goal.returns
returns c = told_above c.args.self.now c.requires.forest c.args.node c.args.depth c.at.result c.at-below.result (let h : 0 < c.args.node = omega (arith, c.if-node-eq0.false) in h) c.at.ensures
    c.at-below.ensures (nat_le c.args.depth c.at-below.result.length) refl
