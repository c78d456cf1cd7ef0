use Rattle.std.proofs.Common.{◌≡◌, ◌++◌, List, take}
use Rattle.std.specs.List.{flat_map}
use Rattle.pt_ranges.specs.declared.handlers.Handler.{Handler}
use Rattle.pt_sizes.specs.Flow.{entry}
use Rattle.pt_verify_leaves.specs.Onto.{Knows, onto, with_number}
use Rattle.pt_verify_leaves.proofs.holding.add_all.Given as goal

abbrev pub invariant-loop-number : goal.invariant-loop-number
invariant-loop-number l = (rows : List Handler) → Knows l.places rows l.takers
    → l.work.items ≡ l.initial.work.items ++ flat_map (λ pc. with_number l.target (onto rows l.classes l.target pc (entry l.places pc))) (take l.number l.members)
