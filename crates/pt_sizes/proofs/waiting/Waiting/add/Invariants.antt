use Rattle.std.proofs.Common.{map}
use Rattle.pt_sizes.specs.Waiting.{Adding, level_of}
use Rattle.pt_sizes.proofs.waiting.Waiting.add.Given as goal

abbrev pub invariant-loop-level : goal.invariant-loop-level
invariant-loop-level l = Adding l.count l.row (map level_of l.initial.level-items) (map level_of l.level-items) l.level-index l.low l.high
