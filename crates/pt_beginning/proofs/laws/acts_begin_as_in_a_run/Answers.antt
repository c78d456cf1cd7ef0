use Rattle.pt_beginning.proofs.Begins.{begins_as_run, ends_without_units}
use Rattle.pt_beginning.proofs.laws.acts_begin_as_in_a_run.Goals as goal

pub returns-clause-begins : goal.returns-clause-begins
returns-clause-begins g c = begins_as_run

pub returns-clause-spent : goal.returns-clause-spent
returns-clause-spent g c = ends_without_units
