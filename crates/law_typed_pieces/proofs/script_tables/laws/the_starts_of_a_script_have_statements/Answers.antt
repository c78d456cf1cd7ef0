use Rattle.law_typed_pieces.proofs.script_tables.Starting.{script_starts_have_statements}
use Rattle.law_typed_pieces.proofs.script_tables.laws.the_starts_of_a_script_have_statements.Goals as goal

pub returns : goal.returns
returns g c = script_starts_have_statements
