use Rattle.sem_compile.proofs.stm_pieces.Rising.{starts_rise}
use Rattle.sem_compile.proofs.stm_pieces.laws.statements_start_one_behind_another.Goals as goal

pub returns : goal.returns
returns g c = starts_rise
