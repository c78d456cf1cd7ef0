use Rattle.std.proofs.Common.{◌≡◌, ◌++◌, take}
use Rattle.pt_step_graph.specs.Graph.{within}
use Rattle.pt_step_graph.proofs.adding.add_bundle.Given as goal

abbrev pub invariant-loop-number : goal.invariant-loop-number
invariant-loop-number l = l.work.items ≡ l.initial.work.items ++ within l.count (take l.number l.places)
