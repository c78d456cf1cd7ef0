use Rattle.std.proofs.Common.{map, take}
use Rattle.pt_sizes.specs.Waiting.{level_of}
use Rattle.pt_takers.specs.Stretches.{AreChainsOfLevel}
use Rattle.pt_takers.proofs.stretches.chains_of_level.Given as goal

abbrev pub invariant-loop-rows : goal.invariant-loop-rows
invariant-loop-rows l = AreChainsOfLevel l.side (map (λ rows. rows.items) (take l.rows-index l.level)) (level_of l.chains)
