use Rattle.std.proofs.Common.{map, []}
use Rattle.pt_sizes.specs.Waiting.{level_of}
use Rattle.pt_cut_failures.specs.Chains.{starts_of}
use Rattle.pt_cut_failures.proofs.Chaining.{Laying, InLevels}
use Rattle.pt_cut_failures.proofs.chains.lay_levels.Given as goal

abbrev pub invariant-loop-level : goal.invariant-loop-level
invariant-loop-level l = Laying [] (InLevels (map level_of l.levels)) l.initial.links.items l.links.items (starts_of l.starts) l.level
