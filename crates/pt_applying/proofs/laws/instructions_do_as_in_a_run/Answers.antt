use Rattle.pt_applying.proofs.Applies.{applies_as_run}
use Rattle.pt_applying.proofs.laws.instructions_do_as_in_a_run.Goals as goal

pub returns : goal.returns
returns g c = applies_as_run
