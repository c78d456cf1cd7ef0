use Rattle.pt_turning.proofs.Turns.{reraises_as_run}
use Rattle.pt_turning.proofs.laws.raises_go_on_as_in_a_run.Goals as goal

pub returns : goal.returns
returns g c = reraises_as_run
