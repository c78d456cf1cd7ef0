use Rattle.std.proofs.Common.{◌≡◌, ◌≤◌, ◌++◌, List, length, map, ap, ◌∙◌, arith, length-append}
use Rattle.std.specs.Prelude.{slice_set}
use Rattle.pt_kind_flow.specs.declared.edges.Edge.{Edge}
use Rattle.pt_kind_flow.specs.declared.edge_lists.Span.{Span}
use Rattle.pt_kind_flow.specs.EdgeLists.{edges_in}
use Rattle.pt_kind_flow.proofs.Spans.{within_more, within_set, lists_set}
use Rattle.pt_kind_flow.proofs.edge_lists.EdgeLists.set.Goals as goal

pub invariant_of-self : goal.invariant_of-self
invariant_of-self c =
    let old = c.self.inside in
    within_more (length old.edges.items) (length c.add_packed.new.packed.items) old.spans.items c.add_packed.ensures.kept c.self.invariant

pub invariant_of-self-in_err-span : goal.invariant_of-self-in_err-span
invariant_of-self-in_err-span c =
    let old = c.self.inside in
    let n = ap length c.in_ok-add_packed.ensures.ok in
    let m = length-append old.edges.items c.args.edges.items in
    let more : length old.edges.items ≤ length c.add_packed.new.packed.items = omega (arith, n, m) in
    within_more (length old.edges.items) (length c.add_packed.new.packed.items) old.spans.items more c.self.invariant

pub invariant_of-self-2 : goal.invariant_of-self-2
invariant_of-self-2 c =
    let old = c.self.inside in
    let n = ap length c.in_ok-add_packed.ensures.ok in
    let m = length-append old.edges.items c.args.edges.items in
    let more : length old.edges.items ≤ length c.add_packed.new.packed.items = omega (arith, n, m) in
    let s = c.in_ok-span.span in
    let from = ap (λ (s : Span). s.from) c.in_ok-span.ensures in
    let to = ap (λ (s : Span). s.to) c.in_ok-span.ensures in
    within_set (length c.add_packed.new.packed.items) old.spans.items c.args.vertex s
    (within_more (length old.edges.items) (length c.add_packed.new.packed.items) old.spans.items more c.self.invariant)
    (let h : s.from ≤ s.to = omega (arith, more, from, to, c.len-from.ensures, c.len.ensures) in h)
    (let h : s.to ≤ length c.add_packed.new.packed.items = omega (arith, to, c.len.ensures) in h)

pub returns : goal.returns
returns c =
    let old = c.self.inside in
    let s = c.in_ok-span.span in
    let items = c.in_ok-add_packed.ensures.ok ∙ ap (λ (more : List Edge). old.edges.items ++ more) c.deref.ensures.value in
    let from : s.from ≡ length old.edges.items = (let e = ap (λ (s : Span). s.from) c.in_ok-span.ensures in omega (arith, e, c.len-from.ensures)) in
    let to : s.to ≡ length (old.edges.items ++ c.args.edges.items) =
    (let e = ap (λ (s : Span). s.to) c.in_ok-span.ensures in let n = ap length items in omega (arith, e, n, c.len.ensures)) in
    ap (λ (edges : List Edge). map (edges_in edges) (slice_set old.spans.items c.args.vertex s)) items
    ∙ (lists_set old.edges.items c.args.edges.items old.spans.items c.args.vertex s c.self.invariant from to
    ∙ ap (λ ls. slice_set ls c.args.vertex c.args.edges.items) c.self.view_is)
