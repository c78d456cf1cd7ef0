use Rattle.sem_compile.proofs.stm_pieces.Blocks.{blocks_begin}
use Rattle.sem_compile.proofs.stm_pieces.laws.the_code_of_pieces_follows_its_block.Goals as goal

pub returns : goal.returns
returns g c = blocks_begin
