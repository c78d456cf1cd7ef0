use Rattle.std.proofs.Common.{◌++◌, ◌<◌, ◌∙◌, replicate, ap, subst, arith}
use Rattle.std.specs.Prelude.{IfOk}
use Rattle.pt_kinds.specs.Forest.{Has, list_at}
use Rattle.pt_kinds.proofs.WayLemmas.{length_is, low_inside, floor_whole, floor_behind, floor_part}
use Rattle.pt_kinds.proofs.forest.Forest.cut.Goals as goal

pub returns-then-top-depth : goal.returns-then-top-depth
returns-then-top-depth c = floor_whole c.args.self.now c.requires.forest c.args.list c.args.depth c.floor-floor.result c.floor-floor.ensures c.at-top.result c.at-top.ensures c.if-top-depth.true

pub at-below-requires : goal.at-below-requires
at-below-requires c = low_inside c.args.self.now c.requires.forest c.floor-floor.result c.at-top.result c.floor-floor.ensures.inside c.at-top.ensures

pub add_run-requires-clause-inside : goal.add_run-requires-clause-inside
add_run-requires-clause-inside c = low_inside c.args.self.now c.requires.forest c.floor-floor.result c.at-top.result c.floor-floor.ensures.inside c.at-top.ensures

pub add_run-requires-clause-some : goal.add_run-requires-clause-some
add_run-requires-clause-some c =
    let f = c.args.self.now in
    let less : c.args.depth < c.at-top.result.length = omega (arith, c.if-top-depth.false) in
    let part = floor_part f c.requires.forest c.args.list c.args.depth c.floor-floor.result c.floor-floor.ensures c.at-top.result c.at-top.ensures less c.at-below.result.length
    (length_is f c.requires.forest c.at-top.result.parent c.at-below.result c.at-below.ensures) in
    let lower = part.0 in
    omega (arith, lower, c.saturating_sub.ensures)

pub add_run-requires-clause-apart : goal.add_run-requires-clause-apart
add_run-requires-clause-apart c =
    let f = c.args.self.now in
    let less : c.args.depth < c.at-top.result.length = omega (arith, c.if-top-depth.false) in
    (c.requires.forest.each c.floor-floor.result c.at-top.result
    (floor_behind f c.requires.forest c.args.list c.args.depth c.floor-floor.result c.floor-floor.ensures c.at-top.result c.at-top.ensures less) c.at-top.ensures).apart

pub returns : goal.returns
returns c =
    let f = c.args.self.now in
    let less : c.args.depth < c.at-top.result.length = omega (arith, c.if-top-depth.false) in
    let part = floor_part f c.requires.forest c.args.list c.args.depth c.floor-floor.result c.floor-floor.ensures c.at-top.result c.at-top.ensures less c.at-below.result.length
    (length_is f c.requires.forest c.at-top.result.parent c.at-below.result c.at-below.ensures) in
    subst (λ ks. IfOk c.add_run.result (λ node. Has f c.add_run.new.self node ks))
    (ap (λ m. list_at f c.at-top.result.parent ++ replicate m c.at-top.result.kind) c.saturating_sub.ensures ∙ part.1)
    c.add_run.ensures
