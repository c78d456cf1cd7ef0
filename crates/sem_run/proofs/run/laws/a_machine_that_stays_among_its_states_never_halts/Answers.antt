use Rattle.sem_run.specs.run.Follows.{Among}
use Rattle.sem_run.proofs.run.Staying.{stays_never_halts}
use Rattle.sem_run.proofs.run.laws.a_machine_that_stays_among_its_states_never_halts.Goals as goal

pub returns : goal.returns
returns g c = λ machine states landings stays host ask n b names w d.
    stays_never_halts machine (Among states) (Among landings) stays host ask n b names w d
