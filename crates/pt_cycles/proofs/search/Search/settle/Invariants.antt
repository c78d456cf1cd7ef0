use Rattle.pt_cycles.specs.Search.{IsOpen, Keeps, weight}
use Rattle.pt_cycles.proofs.search.Search.settle.Given as goal

abbrev pub invariant-loop-cluster : goal.invariant-loop-cluster
invariant-loop-cluster g l = record {
  known : IsOpen (g.G.Graph.edges l.graph) l.self;
  keeps : Keeps l.initial.self.states.items l.self.states.items;
}

abbrev pub decreases-loop-cluster : goal.decreases-loop-cluster
decreases-loop-cluster g l = weight (g.G.Graph.edges l.graph) l.self.states.items l.self.work.items l.self.clusters.items
