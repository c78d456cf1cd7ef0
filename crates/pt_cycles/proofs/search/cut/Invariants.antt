use Rattle.std.proofs.Common.{length}
use Rattle.pt_cycles.specs.Search.{CutSoFar}
use Rattle.pt_cycles.proofs.search.cut.Given as goal

abbrev pub invariant-loop-cluster : goal.invariant-loop-cluster
invariant-loop-cluster l = CutSoFar l.place l.initial.clusters.items l.clusters.items

abbrev pub decreases-loop-cluster : goal.decreases-loop-cluster
decreases-loop-cluster l = length l.clusters.items
