use Rattle.law_code_runs.proofs.code_follows.Agreement.{free_names_have_cells}
use Rattle.law_code_runs.proofs.code_follows.laws.each_free_name_of_code_has_a_cell.Goals as goal

pub returns : goal.returns
returns c = free_names_have_cells
