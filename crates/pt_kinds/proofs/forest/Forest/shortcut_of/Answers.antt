use Rattle.std.proofs.Common.{arith}
use Rattle.pt_kinds.proofs.WayLemmas.{shortcut_inside, shortcut_begins, begins_twice}
use Rattle.pt_kinds.proofs.forest.Forest.shortcut_of.Goals as goal

pub at-shortcut-requires : goal.at-shortcut-requires
at-shortcut-requires c = let j = shortcut_inside c.args.self.now c.requires.forest c.args.parent c.at-below.result c.at-below.ensures in omega (arith, j, c.requires.inside)

pub at-next-requires : goal.at-next-requires
at-next-requires c =
    let j = shortcut_inside c.args.self.now c.requires.forest c.args.parent c.at-below.result c.at-below.ensures in
    let k = shortcut_inside c.args.self.now c.requires.forest c.at-below.result.shortcut c.at-shortcut.result c.at-shortcut.ensures in
    omega (arith, j, k, c.requires.inside)

pub returns-then-saturating_sub-clause-inside : goal.returns-then-saturating_sub-clause-inside
returns-then-saturating_sub-clause-inside c =
    let j = shortcut_inside c.args.self.now c.requires.forest c.args.parent c.at-below.result c.at-below.ensures in
    let k = shortcut_inside c.args.self.now c.requires.forest c.at-below.result.shortcut c.at-shortcut.result c.at-shortcut.ensures in
    omega (arith, j, k)

pub returns-then-saturating_sub-clause-begins : goal.returns-then-saturating_sub-clause-begins
returns-then-saturating_sub-clause-begins c =
    let f = c.args.self.now in
    begins_twice f c.requires.forest c.at-shortcut.result.shortcut c.at-below.result.shortcut c.args.parent
    (shortcut_begins f c.requires.forest c.at-below.result.shortcut c.at-shortcut.result c.at-shortcut.ensures)
    (shortcut_begins f c.requires.forest c.args.parent c.at-below.result c.at-below.ensures)
