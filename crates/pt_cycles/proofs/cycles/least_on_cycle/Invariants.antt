use Rattle.std.proofs.Common.{ℕ, ◌<◌}
use Rattle.pt_cycles.specs.Graphs.{LeadsWithin}
use Rattle.pt_cycles.proofs.cycles.least_on_cycle.Given as goal

abbrev pub invariant-loop-vertex : goal.invariant-loop-vertex
invariant-loop-vertex g l = (u : ℕ) → u < l.vertex → LeadsWithin (g.G.Graph.edges l.graph) l.table.items u → ⊥
