use Rattle.std.proofs.Common.{take}
use Rattle.pt_takers.specs.Chains.{IsChain}
use Rattle.pt_takers.proofs.chains.chain.Given as goal

abbrev pub invariant-loop-at : goal.invariant-loop-at
invariant-loop-at l = IsChain l.side (take l.at l.rows) l.chain.items
