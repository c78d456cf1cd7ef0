use Rattle.std.proofs.Common.{◌+◌, ◌<◌, ◌≤◌, length, sym, arith, ◌∙◌}
use Rattle.std.specs.BinaryHeap.{heap_items}
use Rattle.pt_kind_flow.proofs.Waiting.{leads_into}
use Rattle.pt_kind_flow.proofs.Leading.{leads_more, leads_end, edge_at, rest_told, rest_none}
use Rattle.pt_kind_flow.proofs.flow.add_led.Goals as goal

pub loop-packed-preserved : goal.loop-packed-preserved
loop-packed-preserved c =
    let l = c.loop-packed in
    let es = c.args.edges.now in
    let lt : l.packed-index < length es = omega (arith, c.loop-packed-test.true, l.auto.packed-index-end) in
    let at = edge_at es l.packed-index c.packed-item.result c.edge-edge.result lt c.packed-item.is c.edge-edge.ensures in
    leads_into c.args.forest.now c.led.new.forest es (l.packed-index + 1) c.args.list (heap_items c.args.work.now) (heap_items l.work) (heap_items c.push.new.self) _
    (leads_more c.args.forest.now l.forest c.led.new.forest es l.packed-index c.args.list (heap_items c.args.work.now) (heap_items l.work) l.invariant c.requires.inside c.edge-edge.result
    at c.in_ok-there.there 18446744073709551615 c.in_ok-there.ensures) c.in_ok-push.ensures.permutation

pub returns-then-is_told : goal.returns-then-is_told
returns-then-is_told c =
    let l = c.loop-packed in
    let es = c.args.edges.now in
    let lt : l.packed-index < length es = omega (arith, c.loop-packed-test.true, l.auto.packed-index-end) in
    let at = edge_at es l.packed-index c.packed-item.result c.edge-edge.result lt c.packed-item.is c.edge-edge.ensures in
    leads_end c.args.forest.now l.forest es l.packed-index c.args.list c.args.told (heap_items c.args.work.now) (heap_items l.work) l.invariant
    (rest_told es l.packed-index c.edge-edge.result c.args.told c.requires.sorted at
    (sym c.is_told.ensures ∙ c.if-is_told.true))

pub returns : goal.returns
returns c =
    let l = c.loop-packed in
    let es = c.args.edges.now in
    let h : length es ≤ l.packed-index = omega (arith, c.loop-packed-test.false, l.auto.packed-index-end) in
    leads_end c.args.forest.now l.forest es l.packed-index c.args.list c.args.told (heap_items c.args.work.now) (heap_items l.work) l.invariant (rest_none es l.packed-index c.args.told h)
