use Rattle.std.proofs.Common.{take}
use Rattle.pt_step_graph.specs.Graph.{bundles_of}
use Rattle.pt_verify_leaves.specs.Gathering.{AreGathered}
use Rattle.pt_verify_leaves.proofs.gathering.gathered.Given as goal

abbrev pub invariant-loop-at : goal.invariant-loop-at
invariant-loop-at l = AreGathered l.count (take l.at l.pairs) (bundles_of l.lists)
