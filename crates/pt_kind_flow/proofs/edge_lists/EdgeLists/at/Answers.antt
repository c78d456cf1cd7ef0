use Rattle.std.proofs.Common.{◌<◌, ◌≤◌, ap, length, arith}
use Rattle.std.proofs.lemmas.List.{length-map}
use Rattle.pt_kind_flow.specs.EdgeLists.{edges_in}
use Rattle.pt_kind_flow.proofs.Spans.{within_read}
use Rattle.pt_kind_flow.proofs.edge_lists.EdgeLists.at.Goals as goal

pub slice_bounds-result-count : goal.slice_bounds-result-count
slice_bounds-result-count c =
    let lists = c.self.inside in
    let lt : c.args.vertex < length lists.spans.items =
    (let v = ap length c.self.view_is in let m = length-map lists.spans.items (edges_in lists.edges.items) in let h = c.requires in omega (arith, v, m, h)) in
    (within_read (length lists.edges.items) lists.spans.items c.args.vertex c.index-span.result.now c.self.invariant lt c.index-span.ensures).0

pub slice_bounds-result-start : goal.slice_bounds-result-start
slice_bounds-result-start c =
    let lists = c.self.inside in
    let lt : c.args.vertex < length lists.spans.items =
    (let v = ap length c.self.view_is in let m = length-map lists.spans.items (edges_in lists.edges.items) in let h = c.requires in omega (arith, v, m, h)) in
    (within_read (length lists.edges.items) lists.spans.items c.args.vertex c.index-span.result.now c.self.invariant lt c.index-span.ensures).0

pub slice_bounds-result-end : goal.slice_bounds-result-end
slice_bounds-result-end c =
    let lists = c.self.inside in
    let lt : c.args.vertex < length lists.spans.items =
    (let v = ap length c.self.view_is in let m = length-map lists.spans.items (edges_in lists.edges.items) in let h = c.requires in omega (arith, v, m, h)) in
    let w = within_read (length lists.edges.items) lists.spans.items c.args.vertex c.index-span.result.now c.self.invariant lt c.index-span.ensures in
    let end : c.index-span.result.now.to ≤ length c.deref.result.now = (let l = w.1 in let d = ap length c.deref.ensures.value in omega (arith, l, d)) in end
