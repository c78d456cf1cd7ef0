use Rattle.std.proofs.Common.{map}
use Rattle.pt_sizes.specs.Lows.{LowsSoFar, below}
use Rattle.pt_sizes.proofs.lows.Lows.build.Given as goal

abbrev pub invariant-loop-size : goal.invariant-loop-size
invariant-loop-size l = LowsSoFar (below l.places l.table l.limit) l.limit l.size (map (λ level. level.items) l.levels.items) l.level.items

abbrev pub decreases-loop-size : goal.decreases-loop-size
decreases-loop-size l = l.size
