use Rattle.pt_tracing.proofs.Keeps.{answers_as_run, fails_as_run}
use Rattle.pt_tracing.proofs.laws.trace_functions_do_as_in_a_run.Goals as goal

pub returns-clause-answers : goal.returns-clause-answers
returns-clause-answers g c = answers_as_run

pub returns-clause-fails : goal.returns-clause-fails
returns-clause-fails g c = fails_as_run
