use Rattle.sem_rows.proofs.variables.NumberLemmas.{locals_stand, cells_stand}
use Rattle.sem_rows.proofs.variables.names_stand_at_their_numbers.Goals as goal

pub returns-clause-locals : goal.returns-clause-locals
returns-clause-locals c = locals_stand

pub returns-clause-cells : goal.returns-clause-cells
returns-clause-cells c = cells_stand
