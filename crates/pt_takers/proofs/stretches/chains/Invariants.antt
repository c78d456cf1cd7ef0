use Rattle.std.proofs.Common.{map, take}
use Rattle.pt_sizes.specs.Waiting.{level_of, levels_of}
use Rattle.pt_takers.specs.Stretches.{AreChains}
use Rattle.pt_takers.proofs.stretches.chains.Given as goal

abbrev pub invariant-loop-level : goal.invariant-loop-level
invariant-loop-level l = AreChains l.side (map level_of (take l.level-index l.levels)) (levels_of l.chains)
