use Rattle.pt_telling.proofs.Asks.{asks_as_run}
use Rattle.pt_telling.proofs.laws.asking_is_steps_of_a_run.Goals as goal

pub returns : goal.returns
returns g c = asks_as_run
