use Rattle.pt_assembler.proofs.Standing.{stands_where_laid}
use Rattle.pt_assembler.proofs.laws.a_piece_stands_where_it_is_laid.Goals as goal

pub returns : goal.returns
returns g c = stands_where_laid
