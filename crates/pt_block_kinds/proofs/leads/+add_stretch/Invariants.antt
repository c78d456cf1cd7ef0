use Rattle.std.proofs.Common.{length}
use Rattle.pt_block_kinds.proofs.leads.+add_stretch.Given as goal

abbrev pub decreases-add_stretch : goal.decreases-add_stretch
decreases-add_stretch l = length l.levels.now
