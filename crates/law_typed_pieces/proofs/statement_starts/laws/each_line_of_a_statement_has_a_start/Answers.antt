use Rattle.law_typed_pieces.proofs.statement_starts.Starts.{statements_have_starts}
use Rattle.law_typed_pieces.proofs.statement_starts.laws.each_line_of_a_statement_has_a_start.Goals as goal

pub returns : goal.returns
returns g c = statements_have_starts
