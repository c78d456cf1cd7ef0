use Rattle.pt_arising.proofs.Arises.{arises_as_run}
use Rattle.pt_arising.proofs.laws.exceptions_arise_as_in_a_run.Goals as goal

pub returns : goal.returns
returns g c = arises_as_run
