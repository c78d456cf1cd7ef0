use Rattle.law_jumps.proofs.filled_nests.Reached.{reached_hold_ends}
use Rattle.law_jumps.proofs.filled_nests.laws.reached_nests_are_filled.Goals as goal

pub returns : goal.returns
returns g c = reached_hold_ends
