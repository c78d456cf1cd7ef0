use Rattle.law_pieces.proofs.script_pieces.Statements.{exits_in_loops}
use Rattle.law_pieces.proofs.script_pieces.laws.exits_stand_in_loops.Goals as goal

pub returns : goal.returns
returns c = λ ss b k none at. exits_in_loops ss b k none at
