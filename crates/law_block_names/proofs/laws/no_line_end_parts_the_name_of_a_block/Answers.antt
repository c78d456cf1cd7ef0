use Rattle.law_block_names.proofs.Names.{blocks_have_such_names}
use Rattle.law_block_names.proofs.laws.no_line_end_parts_the_name_of_a_block.Goals as goal

pub returns : goal.returns
returns c = blocks_have_such_names
