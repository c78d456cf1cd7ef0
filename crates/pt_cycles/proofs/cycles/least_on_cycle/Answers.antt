use Rattle.std.proofs.Common.{arith, subst, true, false}
use Rattle.pt_cycles.specs.Graphs.{LeadsWithin, Stays}
use Rattle.pt_cycles.proofs.Ranking.{least_is, ranks_are, none_more}
use Rattle.pt_cycles.proofs.cycles.least_on_cycle.Goals as goal

pub returns-then-branch : goal.returns-then-branch
returns-then-branch g c =
    let d = g.G.Graph.edges c.args.graph.now in let v = c.loop-vertex.vertex in
    let s : Stays true d c.deref.result.now v = rw c.if-branch.true at c.in_ok-stays.ensures in
    least_is d c.in_ok-table.table.items c.in_ok-table.ensures c.args.count v c.loop-vertex.invariant
    (omega (arith, c.loop-vertex-test.true, c.min-vertex-end.ensures))
    (subst (λ xs. LeadsWithin d xs v) c.deref.ensures.value s)

pub loop-vertex-preserved : goal.loop-vertex-preserved
loop-vertex-preserved g c =
    let d = g.G.Graph.edges c.args.graph.now in let v = c.loop-vertex.vertex in
    let s : Stays false d c.deref.result.now v = rw c.if-branch.false at c.in_ok-stays.ensures in
    none_more d c.in_ok-table.table.items c.in_ok-table.ensures v c.loop-vertex.invariant (subst (λ xs. LeadsWithin d xs v → ⊥) c.deref.ensures.value s)

pub returns : goal.returns
returns g c = ranks_are (g.G.Graph.edges c.args.graph.now) c.in_ok-table.table.items c.in_ok-table.ensures c.args.count c.loop-vertex.vertex
    c.loop-vertex.invariant
    (λ u h k. omega (arith, h, k, c.loop-vertex-test.false, c.min-vertex-end.ensures, c.len.ensures, c.in_ok-table.ensures.long))
