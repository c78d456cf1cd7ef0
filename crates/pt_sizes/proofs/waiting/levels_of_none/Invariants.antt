use Rattle.pt_sizes.specs.Waiting.{Empty, levels_of}
use Rattle.pt_sizes.proofs.waiting.levels_of_none.Given as goal

abbrev pub invariant-loop-size : goal.invariant-loop-size
invariant-loop-size l = Empty l.count l.size (levels_of l.levels)

abbrev pub decreases-loop-size : goal.decreases-loop-size
decreases-loop-size l = l.size
