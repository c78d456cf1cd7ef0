use Rattle.pt_turning.proofs.Turns.{begins_as_run, ends_as_run}
use Rattle.pt_turning.proofs.laws.blocks_begin_and_end_as_in_a_run.Goals as goal

pub returns-clause-begins : goal.returns-clause-begins
returns-clause-begins g c = begins_as_run

pub returns-clause-ends : goal.returns-clause-ends
returns-clause-ends g c = ends_as_run
