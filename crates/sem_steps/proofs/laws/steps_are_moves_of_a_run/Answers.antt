use Rattle.sem_steps.proofs.Moves.{steps_are_moves, steps_join, one_step_goes}
use Rattle.sem_steps.proofs.laws.steps_are_moves_of_a_run.Goals as goal

pub returns-clause-moves : goal.returns-clause-moves
returns-clause-moves g c = steps_are_moves

pub returns-clause-join : goal.returns-clause-join
returns-clause-join g c = steps_join

pub returns-clause-one : goal.returns-clause-one
returns-clause-one g c = one_step_goes
