use Rattle.std.proofs.Common.{length}
use Rattle.pt_sizes.specs.Waiting.{StretchLandingSoFar}
use Rattle.pt_sizes.proofs.waiting.land_some.Given as goal

abbrev pub invariant-loop-row : goal.invariant-loop-row
invariant-loop-row l = StretchLandingSoFar l.initial.rows.items l.rows.items l.below l.initial.work.items l.work.items

abbrev pub decreases-loop-row : goal.decreases-loop-row
decreases-loop-row l = length l.rows.items
