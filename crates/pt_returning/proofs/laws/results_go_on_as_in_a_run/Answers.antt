use Rattle.pt_returning.proofs.Returns.{returns_as_run}
use Rattle.pt_returning.proofs.laws.results_go_on_as_in_a_run.Goals as goal

pub returns : goal.returns
returns g c = returns_as_run
