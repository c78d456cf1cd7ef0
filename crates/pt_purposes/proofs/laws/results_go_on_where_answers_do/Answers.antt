use Rattle.pt_purposes.proofs.Doing.{results_go_on}
use Rattle.pt_purposes.proofs.laws.results_go_on_where_answers_do.Goals as goal

pub returns : goal.returns
returns g c = λ embed. results_go_on embed
