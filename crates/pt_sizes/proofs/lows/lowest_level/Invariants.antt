use Rattle.std.proofs.Common.{◌≡◌, ◌<◌, ℕ, length}
use Rattle.pt_sizes.specs.Lows.{low_at, below}
use Rattle.pt_sizes.proofs.lows.lowest_level.Given as goal

abbrev pub invariant-loop-at : goal.invariant-loop-at
invariant-loop-at l = (length l.level.items ≡ l.at) × ((v : ℕ) → v < length l.level.items → low_at l.level.items v ≡ below l.places l.table l.limit v)
