use Rattle.pt_telling.proofs.Tells.{tells_as_run}
use Rattle.pt_telling.proofs.laws.telling_is_steps_of_a_run.Goals as goal

pub returns : goal.returns
returns g c = tells_as_run
