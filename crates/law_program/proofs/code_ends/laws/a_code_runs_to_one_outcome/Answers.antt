use Rattle.law_program.proofs.code_ends.Ends.{runs_to_one_outcome}
use Rattle.law_program.proofs.code_ends.laws.a_code_runs_to_one_outcome.Goals as goal

pub returns : goal.returns
returns c = runs_to_one_outcome
