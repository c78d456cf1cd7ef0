use Rattle.pt_block_limits.proofs.LostLemmas.{NoneLostBelow}
use Rattle.pt_block_limits.proofs.lost.lost_leave.Given as goal

abbrev pub invariant-loop-at : goal.invariant-loop-at
invariant-loop-at l = NoneLostBelow l.places l.sizes l.at
