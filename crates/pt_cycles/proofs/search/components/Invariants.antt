use Rattle.pt_cycles.specs.Search.{Before}
use Rattle.pt_cycles.proofs.search.components.Given as goal

abbrev pub invariant-loop-vertex : goal.invariant-loop-vertex
invariant-loop-vertex g l = Before (g.G.Graph.edges l.graph) l.vertex l.search
