use Rattle.pt_closing.proofs.Ending.{module_ends_as_run}
use Rattle.pt_closing.proofs.laws.modules_end_as_in_a_run.Goals as goal

pub returns : goal.returns
returns g c = module_ends_as_run
