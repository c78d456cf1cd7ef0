use Rattle.sem_run.proofs.run.RunLemmas.{is_as_alone}
use Rattle.sem_run.proofs.run.laws.a_debugger_that_only_looks_changes_nothing.Goals as goal

pub returns : goal.returns
returns g c = λ machine host ask debuggers n x. is_as_alone machine host ask debuggers n x
