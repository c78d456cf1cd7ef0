use Rattle.pt_reraising.proofs.Raises.{raises_again_as_run}
use Rattle.pt_reraising.proofs.laws.raise_alone_does_as_in_a_run.Goals as goal

pub returns : goal.returns
returns g c = raises_again_as_run
