use Rattle.sem_compile.proofs.compile.Blocks.{as_many_blocks}
use Rattle.sem_compile.proofs.compile.laws.a_code_has_as_many_blocks.Goals as goal

pub returns : goal.returns
returns c = as_many_blocks
