use Rattle.std.proofs.Common.{◌≡◌}
use Rattle.pt_sizes.specs.Waiting.{DeepestBelow, levels_of, up}
use Rattle.pt_sizes.proofs.waiting.Waiting.deepest_at.Given as goal

abbrev pub invariant-loop-level : goal.invariant-loop-level
invariant-loop-level l = (l.node ≡ up l.level-index l.at) × DeepestBelow (levels_of l.self.levels) l.level-index l.at l.most
