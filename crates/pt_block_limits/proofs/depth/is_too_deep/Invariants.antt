use Rattle.pt_block_limits.proofs.DepthLemmas.{NoneDeepBelow}
use Rattle.pt_block_limits.proofs.depth.is_too_deep.Given as goal

abbrev pub invariant-loop-place : goal.invariant-loop-place
invariant-loop-place l = NoneDeepBelow l.sizes l.place
