use Rattle.std.proofs.Common.{length}
use Rattle.pt_takers.proofs.stretches.+first_up.Given as goal

abbrev pub decreases-first_up : goal.decreases-first_up
decreases-first_up l = length l.levels.now
