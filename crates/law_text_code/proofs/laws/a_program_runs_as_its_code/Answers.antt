use Rattle.law_text_code.proofs.Texts.{program_runs_as_its_code}
use Rattle.law_text_code.proofs.laws.a_program_runs_as_its_code.Goals as goal

pub returns : goal.returns
returns g c = program_runs_as_its_code
