use Rattle.law_jumps.proofs.text_runs.Texts.{texts_run_as_their_code}
use Rattle.law_jumps.proofs.text_runs.laws.a_text_has_the_runs_of_its_code.Goals as goal

pub returns : goal.returns
returns g c = texts_run_as_their_code
