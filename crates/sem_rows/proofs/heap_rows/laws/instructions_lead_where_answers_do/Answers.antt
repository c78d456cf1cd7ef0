use Rattle.sem_rows.proofs.heap_rows.RowLemmas.{asks_lead}
use Rattle.sem_rows.proofs.heap_rows.laws.instructions_lead_where_answers_do.Goals as goal

pub returns-clause-asks : goal.returns-clause-asks
returns-clause-asks c = λ program code i h st. asks_lead program code i h st
