use Rattle.pt_failing.proofs.Fails.{fails_as_run}
use Rattle.pt_failing.proofs.laws.failures_arise_as_in_a_run.Goals as goal

pub returns : goal.returns
returns g c = fails_as_run
