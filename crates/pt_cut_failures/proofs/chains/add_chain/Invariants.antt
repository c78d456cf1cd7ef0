use Rattle.pt_cut_failures.proofs.Chaining.{Chaining}
use Rattle.pt_cut_failures.proofs.chains.add_chain.Given as goal

abbrev pub invariant-loop-at : goal.invariant-loop-at
invariant-loop-at l = Chaining l.initial.links.items l.links.items l.rows l.at
