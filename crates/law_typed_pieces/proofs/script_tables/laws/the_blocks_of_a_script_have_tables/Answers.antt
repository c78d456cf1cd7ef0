use Rattle.law_typed_pieces.proofs.script_tables.Tables.{blocks_have_tables}
use Rattle.law_typed_pieces.proofs.script_tables.laws.the_blocks_of_a_script_have_tables.Goals as goal

pub returns : goal.returns
returns g c = blocks_have_tables
