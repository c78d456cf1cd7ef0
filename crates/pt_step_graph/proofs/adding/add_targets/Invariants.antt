use Rattle.std.proofs.Common.{◌≡◌, ◌++◌, take, map}
use Rattle.pt_step_graph.specs.Graph.{within}
use Rattle.pt_step_graph.proofs.Lists.{target}
use Rattle.pt_step_graph.proofs.adding.add_targets.Given as goal

abbrev pub invariant-loop-number : goal.invariant-loop-number
invariant-loop-number l = l.work.items ≡ l.initial.work.items ++ within l.count (take l.number (map target l.rows))
