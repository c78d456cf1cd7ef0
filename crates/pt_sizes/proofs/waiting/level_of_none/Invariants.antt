use Rattle.pt_sizes.specs.Waiting.{BareTo, level_of}
use Rattle.pt_sizes.proofs.waiting.level_of_none.Given as goal

abbrev pub invariant-loop-counter : goal.invariant-loop-counter
invariant-loop-counter l = BareTo l.counter (level_of l.level)
