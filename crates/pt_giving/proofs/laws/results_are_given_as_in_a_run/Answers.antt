use Rattle.pt_giving.proofs.Gives.{gives_as_run}
use Rattle.pt_giving.proofs.laws.results_are_given_as_in_a_run.Goals as goal

pub returns : goal.returns
returns g c = gives_as_run
