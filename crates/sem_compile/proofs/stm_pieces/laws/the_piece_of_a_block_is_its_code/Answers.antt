use Rattle.sem_compile.proofs.stm_pieces.Blocks.{blocks_are_code}
use Rattle.sem_compile.proofs.stm_pieces.laws.the_piece_of_a_block_is_its_code.Goals as goal

pub returns : goal.returns
returns g c = blocks_are_code
