use Rattle.std.proofs.Common.{length}
use Rattle.pt_joins.specs.Joins.{JoinsSoFar}
use Rattle.pt_joins.proofs.joins.joins_of.Given as goal

abbrev pub invariant-loop-join : goal.invariant-loop-join
invariant-loop-join l = JoinsSoFar l.fn.joins.items l.left.items l.count l.told.nodes.items

abbrev pub decreases-loop-join : goal.decreases-loop-join
decreases-loop-join l = length l.left.items
