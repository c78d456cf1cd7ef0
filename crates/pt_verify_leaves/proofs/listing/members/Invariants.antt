use Rattle.pt_sizes.specs.Flow.{entry}
use Rattle.pt_verify_leaves.specs.Onto.{ListsBelow, member_at}
use Rattle.pt_verify_leaves.proofs.listing.members.Given as goal

abbrev pub invariant-loop-at : goal.invariant-loop-at
invariant-loop-at l = ListsBelow (λ pc. member_at (entry l.classes pc) pc (entry l.places pc)) l.at l.members.items
