use Rattle.pt_answering.proofs.Answers.{answers_as_run}
use Rattle.pt_answering.proofs.laws.answers_go_on_as_in_a_run.Goals as goal

pub returns : goal.returns
returns g c = answers_as_run
