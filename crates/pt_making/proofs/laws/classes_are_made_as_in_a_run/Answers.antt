use Rattle.pt_making.proofs.Makes.{makes_as_run}
use Rattle.pt_making.proofs.laws.classes_are_made_as_in_a_run.Goals as goal

pub returns : goal.returns
returns g c = makes_as_run
