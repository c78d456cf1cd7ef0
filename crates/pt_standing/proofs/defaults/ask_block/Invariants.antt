use Rattle.std.proofs.Common.{◌-◌, length}
use Rattle.pt_standing.proofs.defaults.ask_block.Given as goal

abbrev pub decreases-loop-at : goal.decreases-loop-at
decreases-loop-at l = length l.bytes - l.at
