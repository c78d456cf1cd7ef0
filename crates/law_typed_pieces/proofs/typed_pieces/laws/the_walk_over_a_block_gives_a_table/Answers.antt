use Rattle.law_typed_pieces.proofs.typed_pieces.Tables.{have_tables}
use Rattle.law_typed_pieces.proofs.typed_pieces.laws.the_walk_over_a_block_gives_a_table.Goals as goal

pub returns : goal.returns
returns g c = have_tables
