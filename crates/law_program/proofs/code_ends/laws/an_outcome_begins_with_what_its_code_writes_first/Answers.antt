use Rattle.law_program.proofs.code_ends.Ends.{begins_with_first_writes}
use Rattle.law_program.proofs.code_ends.laws.an_outcome_begins_with_what_its_code_writes_first.Goals as goal

pub returns : goal.returns
returns c = begins_with_first_writes
