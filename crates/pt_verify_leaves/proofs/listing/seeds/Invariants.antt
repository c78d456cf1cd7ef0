use Rattle.std.proofs.Common.{List}
use Rattle.pt_ranges.specs.declared.handlers.Handler.{Handler}
use Rattle.pt_sizes.specs.Flow.{entry}
use Rattle.pt_verify_leaves.specs.Onto.{Knows, ListsBelow, seed_at}
use Rattle.pt_verify_leaves.proofs.listing.seeds.Given as goal

abbrev pub invariant-loop-at : goal.invariant-loop-at
invariant-loop-at l = (rows : List Handler) → Knows l.places rows l.takers
    → ListsBelow (λ pc. seed_at rows l.classes pc (entry l.places pc) (entry l.sizes pc)) l.at l.seeds.items
