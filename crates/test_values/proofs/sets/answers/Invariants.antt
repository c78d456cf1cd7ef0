use Rattle.std.proofs.Common.{length}
use Rattle.test_values.proofs.sets.answers.Given as goal

abbrev pub decreases-loop-entry : goal.decreases-loop-entry
decreases-loop-entry l = length l.left
