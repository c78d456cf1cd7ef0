use Rattle.std.proofs.Common.{◌≤◌, arith}
use Rattle.pt_kinds.proofs.WayLemmas.{shortcut_inside, lower_parent, lower_shortcut}
use Rattle.pt_kinds.proofs.forest.Forest.lower.Goals as goal

pub at-requires : goal.at-requires
at-requires c = let j = shortcut_inside c.args.self.now c.requires.forest c.args.node c.at-top.result c.at-top.ensures in omega (arith, j, c.requires.inside)

pub returns-then-at-depth : goal.returns-then-at-depth
returns-then-at-depth c = lower_parent c.args.self.now c.requires.forest c.args.node c.args.depth c.requires.enough c.at-top.result c.at-top.ensures

pub returns-else-at-depth : goal.returns-else-at-depth
returns-else-at-depth c = lower_shortcut c.args.self.now c.requires.forest c.args.node c.args.depth c.requires.behind c.at-top.result c.at.result c.at-top.ensures c.at.ensures
    (let h : c.args.depth ≤ c.at.result.length = omega (arith, c.if-at-depth.false) in h)
