use Rattle.std.proofs.Common.{◌+◌, ◌-◌, ◌<◌, ◌≤◌, ℕ, map}
use Rattle.std.specs.Prelude.{length, slice_index}
use Rattle.bench_leaves.proofs.rises.Given as goal

abbrev pub invariant-loop-i : goal.invariant-loop-i
invariant-loop-i l = record {
  low : 1 ≤ l.i;
  rise : (k : ℕ) → k + 1 < l.i → k + 1 < length l.rows → slice_index (map (λ m. m.pc.0) l.rows) k < slice_index (map (λ m. m.pc.0) l.rows) (k + 1);
}

abbrev pub decreases-loop-i : goal.decreases-loop-i
decreases-loop-i l = length l.rows - l.i
