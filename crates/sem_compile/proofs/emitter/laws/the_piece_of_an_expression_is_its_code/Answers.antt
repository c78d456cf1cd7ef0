use Rattle.sem_compile.proofs.emitter.Expressions.{piece_is_code}
use Rattle.sem_compile.proofs.emitter.laws.the_piece_of_an_expression_is_its_code.Goals as goal

pub returns : goal.returns
returns g c = piece_is_code
