use Rattle.pt_resuming.proofs.Resumes.{resumes_as_run}
use Rattle.pt_resuming.proofs.laws.results_are_used_as_in_a_run.Goals as goal

pub returns : goal.returns
returns g c = resumes_as_run
