use Rattle.std.proofs.Common.{rules, ◌≡◌, List, [], length, map, replicate, sym, ap, ◌∙◌, subst}
use Rattle.pt_kind_flow.specs.declared.edges.Edge.{Edge}
use Rattle.pt_kind_flow.specs.declared.edge_lists.Span.{Span}
use Rattle.pt_kind_flow.specs.EdgeLists.{AreWithin, edges_in}
use Rattle.pt_kind_flow.proofs.Spans.{no_edge, within_none, lists_none}
use Rattle.pt_kind_flow.proofs.edge_lists.EdgeLists.new.Goals as goal

pub invariant_of-result : goal.invariant_of-result
invariant_of-result c =
    let none : c.in_ok-spans.spans.items ≡ replicate c.args.count no_edge = c.in_ok-spans.ensures.items_if_clones_equal (search rules) in
    subst (λ (spans : List Span). AreWithin (length c.new.result.items) spans) (sym none) (within_none c.args.count (length c.new.result.items))

pub returns : goal.returns
returns c =
    let none : c.in_ok-spans.spans.items ≡ replicate c.args.count no_edge = c.in_ok-spans.ensures.items_if_clones_equal (search rules) in
    ap (λ (edges : List Edge). map (edges_in edges) c.in_ok-spans.spans.items) c.new.ensures.items
    ∙ (ap (λ (spans : List Span). map (edges_in []) spans) none ∙ lists_none c.args.count)
