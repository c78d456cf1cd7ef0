use Rattle.std.proofs.Common.{◌≡◌, ◌<◌, ℕ, length}
use Rattle.std.specs.Prelude.{slice_index_or}
use Rattle.pt_places.proofs.innermost.no_skips.Given as goal

abbrev pub invariant-loop-place : goal.invariant-loop-place
invariant-loop-place l = record {
  long : length l.skips.items ≡ l.place;
  each : (pc : ℕ) → pc < l.place → slice_index_or l.skips.items pc 0 ≡ pc;
}
