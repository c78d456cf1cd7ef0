use Rattle.pt_opening.proofs.Opens.{opens_as_run}
use Rattle.pt_opening.proofs.laws.blocks_open_as_in_a_run.Goals as goal

pub returns : goal.returns
returns g c = opens_as_run
