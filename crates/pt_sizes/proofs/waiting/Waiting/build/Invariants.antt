use Rattle.std.proofs.Common.{length}
use Rattle.pt_sizes.specs.Waiting.{WaitingSoFar, levels_of}
use Rattle.pt_sizes.proofs.waiting.Waiting.build.Given as goal

abbrev pub invariant-loop-row : goal.invariant-loop-row
invariant-loop-row l = WaitingSoFar l.rows l.left.items l.count (levels_of l.waiting.levels)

abbrev pub decreases-loop-row : goal.decreases-loop-row
decreases-loop-row l = length l.left.items
