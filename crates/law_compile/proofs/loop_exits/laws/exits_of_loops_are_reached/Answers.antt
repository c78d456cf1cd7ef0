use Rattle.law_compile.proofs.loop_exits.Reached.{exits_are_reached}
use Rattle.law_compile.proofs.loop_exits.laws.exits_of_loops_are_reached.Goals as goal

pub returns : goal.returns
returns g c = exits_are_reached
