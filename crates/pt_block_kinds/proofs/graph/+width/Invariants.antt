use Rattle.std.proofs.Common.{length}
use Rattle.pt_block_kinds.proofs.graph.+width.Given as goal

abbrev pub decreases-width : goal.decreases-width
decreases-width l = length l.levels.now
