use Rattle.pt_advancing.proofs.Advances.{advances_as_run, turns_advance}
use Rattle.pt_advancing.proofs.laws.turns_without_instructions_are_those_of_a_run.Goals as goal

pub returns-clause-leads : goal.returns-clause-leads
returns-clause-leads g c = advances_as_run

pub returns-clause-turns : goal.returns-clause-turns
returns-clause-turns g c = turns_advance
