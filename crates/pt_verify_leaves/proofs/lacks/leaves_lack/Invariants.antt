use Rattle.std.proofs.Common.{◌≡◌, ◌<◌, ℕ, List, false}
use Rattle.pt_ranges.specs.declared.handlers.Handler.{Handler}
use Rattle.pt_sizes.specs.Flow.{entry}
use Rattle.pt_step_graph.specs.Graph.{bundles_of}
use Rattle.pt_verify_leaves.specs.Lacks.{lacks_at, targets_at}
use Rattle.pt_verify_leaves.specs.Onto.{Knows}
use Rattle.pt_verify_leaves.proofs.lacks.leaves_lack.Given as goal

abbrev pub invariant-loop-at : goal.invariant-loop-at
invariant-loop-at l = (rows : List Handler) → Knows l.places rows l.takers → (q : ℕ) → q < l.at
    → lacks_at rows l.sizes q (entry l.places q) (entry l.sizes q) (targets_at (bundles_of l.told.bundles) (entry l.told.held.items q)) ≡ false
