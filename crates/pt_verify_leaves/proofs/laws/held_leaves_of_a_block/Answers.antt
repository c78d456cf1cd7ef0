use Rattle.pt_verify_leaves.proofs.Whole.{of_block}
use Rattle.pt_verify_leaves.proofs.laws.held_leaves_of_a_block.Goals as goal

pub returns : goal.returns
returns c = of_block
