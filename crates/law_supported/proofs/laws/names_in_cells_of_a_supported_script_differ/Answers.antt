use Rattle.law_supported.proofs.Different.{cells_are_different}
use Rattle.law_supported.proofs.laws.names_in_cells_of_a_supported_script_differ.Goals as goal

pub returns : goal.returns
returns c = cells_are_different
