use Rattle.law_text_code.proofs.Texts.{text_runs_as_its_code}
use Rattle.law_text_code.proofs.laws.a_text_runs_as_its_code.Goals as goal

pub returns : goal.returns
returns g c = text_runs_as_its_code
