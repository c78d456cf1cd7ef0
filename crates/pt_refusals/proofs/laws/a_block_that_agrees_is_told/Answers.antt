use Rattle.pt_refusals.proofs.Refusing.{agreeing_blocks_are_told}
use Rattle.pt_refusals.proofs.laws.a_block_that_agrees_is_told.Goals as goal

pub returns : goal.returns
returns c = agreeing_blocks_are_told
