use Rattle.sem_names.specs.Script.{naming_script}
use Rattle.sem_names.proofs.TakenLemmas.{cells_of_maker}
use Rattle.sem_names.proofs.laws.what_is_taken_along_is_in_a_cell.Goals as goal

pub returns : goal.returns
returns g c = λ v ss b block. cells_of_maker v (naming_script ss) b block
