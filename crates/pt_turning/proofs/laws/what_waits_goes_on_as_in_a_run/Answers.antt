use Rattle.pt_turning.proofs.Turns.{goes_on_as_run}
use Rattle.pt_turning.proofs.laws.what_waits_goes_on_as_in_a_run.Goals as goal

pub returns : goal.returns
returns g c = goes_on_as_run
