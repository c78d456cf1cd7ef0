use Rattle.sem_compile.proofs.stm_pieces.Fitting.{pieces_fit}
use Rattle.sem_compile.proofs.stm_pieces.laws.the_pieces_of_blocks_fit.Goals as goal

pub returns : goal.returns
returns g c = pieces_fit
