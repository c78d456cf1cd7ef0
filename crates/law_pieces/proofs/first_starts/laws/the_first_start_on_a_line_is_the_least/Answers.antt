use Rattle.law_pieces.proofs.first_starts.Least.{first_is_least}
use Rattle.law_pieces.proofs.first_starts.laws.the_first_start_on_a_line_is_the_least.Goals as goal

pub returns : goal.returns
returns g c = first_is_least
