use Rattle.sem_compile.proofs.compile.Blocks.{blocks_are_laid_out}
use Rattle.sem_compile.proofs.compile.laws.the_blocks_of_a_script_are_laid_out.Goals as goal

pub returns : goal.returns
returns c = blocks_are_laid_out
