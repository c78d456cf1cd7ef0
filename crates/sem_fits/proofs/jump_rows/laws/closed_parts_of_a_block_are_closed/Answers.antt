use Rattle.sem_fits.proofs.jump_rows.RowProofs.{exit_is_closed, finally_is_closed, for_is_closed, handler_is_closed, tests_are_closed, with_is_closed}
use Rattle.sem_fits.proofs.jump_rows.laws.closed_parts_of_a_block_are_closed.Goals as goal

pub returns-clause-for_part : goal.returns-clause-for_part
returns-clause-for_part c = for_is_closed

pub returns-clause-tests : goal.returns-clause-tests
returns-clause-tests c = tests_are_closed

pub returns-clause-handler : goal.returns-clause-handler
returns-clause-handler c = handler_is_closed

pub returns-clause-finally_part : goal.returns-clause-finally_part
returns-clause-finally_part c = finally_is_closed

pub returns-clause-with_part : goal.returns-clause-with_part
returns-clause-with_part c = with_is_closed

pub returns-clause-exit : goal.returns-clause-exit
returns-clause-exit c = exit_is_closed
