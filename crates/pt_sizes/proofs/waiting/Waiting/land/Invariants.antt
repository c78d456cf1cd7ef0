use Rattle.std.proofs.Common.{◌≡◌, map}
use Rattle.pt_sizes.specs.Waiting.{level_of, up, LevelsLandingSoFar}
use Rattle.pt_sizes.proofs.waiting.Waiting.land.Given as goal

abbrev pub invariant-loop-level : goal.invariant-loop-level
invariant-loop-level l = (l.node ≡ up l.level-index l.at) × LevelsLandingSoFar (map level_of l.initial.level-items) (map level_of l.level-items) l.level-index l.at l.below l.initial.work.items l.work.items
