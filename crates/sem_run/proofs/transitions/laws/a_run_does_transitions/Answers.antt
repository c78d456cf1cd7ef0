use Rattle.sem_run.proofs.transitions.RunLemmas.{all_begun}
use Rattle.sem_run.proofs.transitions.laws.a_run_does_transitions.Goals as goal

pub returns-clause-asks : goal.returns-clause-asks
returns-clause-asks g c = λ machine host n q s. all_begun machine host n q s
