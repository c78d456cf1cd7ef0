use Rattle.std.proofs.Common.{◌≡◌, ◌<◌, ℕ, length}
use Rattle.pt_sizes.specs.Flow.{entry}
use Rattle.pt_verify_leaves.specs.Onto.{ended_at}
use Rattle.pt_verify_leaves.proofs.listing.ended.Given as goal

abbrev pub invariant-loop-at : goal.invariant-loop-at
invariant-loop-at l = record {
  long : length l.held.items ≡ l.at;
  each : (pc : ℕ) → pc < l.at → entry l.held.items pc ≡ ended_at (entry l.classes pc) (entry l.places pc);
}
