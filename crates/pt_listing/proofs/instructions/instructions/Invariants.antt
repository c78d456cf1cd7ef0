use Rattle.std.proofs.Common.{length, ◌-◌, ◌≤◌}
use Rattle.pt_listing.proofs.Left.{IsLeft}
use Rattle.pt_listing.proofs.instructions.instructions.Given as goal

abbrev pub invariant-loop-at : goal.invariant-loop-at
invariant-loop-at l = record {
  left : IsLeft l.bytes l.instrs l.at;
  within : l.at ≤ length l.bytes;
}

abbrev pub decreases-loop-at : goal.decreases-loop-at
decreases-loop-at l = length l.bytes - l.at
