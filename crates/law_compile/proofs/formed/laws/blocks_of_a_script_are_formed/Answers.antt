use Rattle.law_compile.proofs.formed.Blocks.{blocks_are_formed}
use Rattle.law_compile.proofs.formed.laws.blocks_of_a_script_are_formed.Goals as goal

pub returns : goal.returns
returns c = blocks_are_formed
