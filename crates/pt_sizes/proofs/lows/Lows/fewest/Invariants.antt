use Rattle.std.proofs.Common.{ℕ, ◌≤◌, map}
use Rattle.pt_sizes.specs.Lows.{AreAllLows, FewestSoFar}
use Rattle.pt_sizes.proofs.lows.Lows.fewest.Given as goal

abbrev pub invariant-loop-level : goal.invariant-loop-level
invariant-loop-level l = (numbers : ℕ → ℕ) (count : ℕ) → AreAllLows numbers count (map (λ level. level.items) l.self.levels.items) → l.to ≤ count
    → FewestSoFar numbers count l.from l.to l.level-index l.low l.high l.fewest
