use Rattle.pt_bare_writes.proofs.Fronting.{runs_write_it_first}
use Rattle.pt_bare_writes.proofs.laws.a_front_of_a_bare_run_is_one_of_the_run.Goals as goal

pub returns : goal.returns
returns g c = λ machine host n block names world. runs_write_it_first machine host n block names world
