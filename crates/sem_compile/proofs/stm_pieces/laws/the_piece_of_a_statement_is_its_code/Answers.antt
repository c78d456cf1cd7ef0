use Rattle.sem_compile.proofs.stm_pieces.Statements.{statement_is_code, statements_are_code}
use Rattle.sem_compile.proofs.stm_pieces.laws.the_piece_of_a_statement_is_its_code.Goals as goal

pub returns-clause-statement : goal.returns-clause-statement
returns-clause-statement g c = statement_is_code

pub returns-clause-statements : goal.returns-clause-statements
returns-clause-statements g c = statements_are_code
