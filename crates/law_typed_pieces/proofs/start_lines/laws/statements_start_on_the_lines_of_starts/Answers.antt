use Rattle.law_typed_pieces.proofs.start_lines.Pieces.{starts_have_statements}
use Rattle.law_typed_pieces.proofs.start_lines.laws.statements_start_on_the_lines_of_starts.Goals as goal

pub returns : goal.returns
returns g c = starts_have_statements
