use Rattle.law_parts.proofs.part_slots.Blocks.{have_parts}
use Rattle.law_parts.proofs.part_slots.laws.the_statements_of_a_block_lie_in_its_parts.Goals as goal

pub returns : goal.returns
returns g c = have_parts
