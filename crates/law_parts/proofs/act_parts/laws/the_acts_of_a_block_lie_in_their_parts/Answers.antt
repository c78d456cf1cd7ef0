use Rattle.law_parts.proofs.act_parts.Blocks.{acts_lie}
use Rattle.law_parts.proofs.act_parts.laws.the_acts_of_a_block_lie_in_their_parts.Goals as goal

pub returns : goal.returns
returns g c = acts_lie
