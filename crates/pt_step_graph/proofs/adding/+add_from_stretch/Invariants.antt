use Rattle.std.proofs.Common.{length}
use Rattle.pt_step_graph.proofs.adding.+add_from_stretch.Given as goal

abbrev pub decreases-add_from_stretch : goal.decreases-add_from_stretch
decreases-add_from_stretch l = length l.levels.now
