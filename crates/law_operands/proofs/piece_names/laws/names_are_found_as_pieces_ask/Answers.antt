use Rattle.law_operands.proofs.piece_names.Script.{names_are_found}
use Rattle.law_operands.proofs.piece_names.laws.names_are_found_as_pieces_ask.Goals as goal

pub returns : goal.returns
returns g c = names_are_found
