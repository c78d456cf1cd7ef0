use Rattle.std.proofs.Common.{[]}
use Rattle.pt_step_graph.specs.Graph.{bundles_of}
use Rattle.pt_verify_leaves.specs.Gathering.{AreGathered}
use Rattle.pt_verify_leaves.proofs.gathering.empty_lists.Given as goal

abbrev pub invariant-loop-counter : goal.invariant-loop-counter
invariant-loop-counter l = AreGathered l.counter [] (bundles_of l.lists)
