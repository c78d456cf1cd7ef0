use Rattle.sem_run.proofs.run.Showing.{shows_once, writes_it_first}
use Rattle.sem_run.proofs.run.laws.what_shows_of_a_run_is_one.Goals as goal

pub returns-clause-outcome : goal.returns-clause-outcome
returns-clause-outcome g c = λ machine host n block names world. shows_once machine host n block names world

pub returns-clause-front : goal.returns-clause-front
returns-clause-front g c = λ machine host n block names world. writes_it_first machine host n block names world
