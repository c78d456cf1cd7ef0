use Rattle.std.proofs.Common.{◌<◌, arith}
use Rattle.pt_kinds.proofs.WayLemmas.{told_apart}
use Rattle.pt_kinds.proofs.forest.Forest.is_apart.Goals as goal

pub returns : goal.returns
returns c = told_apart c.args.self.now c.requires.forest c.args.list c.at.result c.args.kind (let h : 0 < c.args.list = omega (arith, c.if-list-eq0.false) in h) c.at.ensures c.is_kind.result
    c.is_kind.ensures
