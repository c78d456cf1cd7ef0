use Rattle.std.proofs.Common.{ℕ, ◌<◌, ◌≡◌, true}
use Rattle.pt_sizes.specs.Flow.{entry}
use Rattle.pt_leave_clashes.specs.Others.{place_differs}
use Rattle.pt_leave_clashes.proofs.clashes.any_differs.Given as goal

abbrev pub invariant-loop-at : goal.invariant-loop-at
invariant-loop-at l = (pc : ℕ) → pc < l.at → place_differs l.kinds.flow l.sizes pc (entry l.places pc) ≡ true → ⊥
