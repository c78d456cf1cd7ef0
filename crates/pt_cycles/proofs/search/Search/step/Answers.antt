use Rattle.std.proofs.Common.{arith}
use Rattle.std.proofs.lemmas.Result.{IfOk-weaker}
use Rattle.pt_cycles.proofs.Stepping.{start_below, path_inside, ends, taken, is_last, on}
use Rattle.pt_cycles.proofs.search.Search.step.Goals as goal

pub close-requires-clause-below : goal.close-requires-clause-below
close-requires-clause-below g c = start_below (g.G.Graph.edges c.args.graph.now) c.args.self.now c.args.cluster c.requires

pub close-requires-clause-inside : goal.close-requires-clause-inside
close-requires-clause-inside g c = path_inside (g.G.Graph.edges c.args.graph.now) c.args.self.now c.args.cluster c.requires

pub returns-then-len-cluster : goal.returns-then-len-cluster
returns-then-len-cluster g c = IfOk-weaker c.close.result _ _
    (λ x is. ends (g.G.Graph.edges c.args.graph.now) c.args.self.now c.args.cluster c.requires
    (omega (arith, c.if-len-cluster.true, c.len.ensures)) c.close.new.self is)
    c.close.ensures

pub follow-requires-clause-last : goal.follow-requires-clause-last
follow-requires-clause-last g c =
    is_last (g.G.Graph.edges c.args.graph.now) c.args.self.now c.args.cluster c.requires c.in-Some.vertex c.pop.new.self c.push.new.self
    c.in-Some.ensures.items c.in_ok-push.ensures.items (omega (arith, c.if-len-cluster.false, c.len.ensures))

pub follow-requires-clause-known : goal.follow-requires-clause-known
follow-requires-clause-known g c =
    taken (g.G.Graph.edges c.args.graph.now) c.args.self.now c.args.cluster c.requires c.in-Some.vertex c.pop.new.self c.push.new.self
    c.in-Some.ensures.items c.in_ok-push.ensures.items (omega (arith, c.if-len-cluster.false, c.len.ensures))

pub returns : goal.returns
returns g c = IfOk-weaker c.follow.result _ _
    (λ x is. on (g.G.Graph.edges c.args.graph.now) c.args.self.now c.args.cluster c.requires c.in-Some.vertex c.pop.new.self c.push.new.self
    c.in-Some.ensures.items c.in_ok-push.ensures.items (omega (arith, c.if-len-cluster.false, c.len.ensures)) c.follow.new.self is)
    c.follow.ensures

pub returns-in_default : goal.returns-in_default
returns-in_default g c = absurd
    (omega (arith, c.if-len-cluster.false, c.len.ensures, c.in_default.ensures.cases, c.in_default.ensures.variant, c.in_default.ensures.len))
