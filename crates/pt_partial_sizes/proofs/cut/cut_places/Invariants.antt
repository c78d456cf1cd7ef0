use Rattle.pt_partial_sizes.proofs.CutSoFar.{CutUpTo}
use Rattle.pt_partial_sizes.proofs.cut.cut_places.Given as goal

abbrev pub invariant-loop-pc : goal.invariant-loop-pc
invariant-loop-pc l = CutUpTo l.limit l.pc l.fn.places.items l.places.items
