use Rattle.std.proofs.Common.{◌≡◌, ◌+◌, ◌*◌, ◌<◌, ℕ, length}
use Rattle.std.specs.Prelude.{min}
use Rattle.pt_sizes.specs.Lows.{low_at}
use Rattle.pt_sizes.proofs.lows.level_above.Given as goal

abbrev pub invariant-loop-node : goal.invariant-loop-node
invariant-loop-node l = (length l.above.items ≡ l.node) × ((v : ℕ) → v < length l.above.items → low_at l.above.items v ≡ min (low_at l.level (2 * v)) (low_at l.level (2 * v + 1)))
