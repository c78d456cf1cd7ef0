use Rattle.law_pieces.proofs.script_pieces.Cells.{takes_cells}
use Rattle.law_pieces.proofs.script_pieces.laws.blocks_take_cells_along.Goals as goal

pub returns : goal.returns
returns g c = λ v ss b. takes_cells v ss b
