use Rattle.std.proofs.Common.{◌≡◌, ℕ, ◌<◌, true}
use Rattle.pt_places.specs.PlaceTable.{entry}
use Rattle.pt_verify.specs.Leaves.{is_leave}
use Rattle.pt_verify.proofs.leaves.has_leave.Given as goal

abbrev pub invariant-loop-at : goal.invariant-loop-at
invariant-loop-at l = (pc : ℕ) → pc < l.at → is_leave (entry l.places pc) ≡ true → ⊥
