use Rattle.law_code_runs.proofs.code_follows.Objects.{script_has_its_code}
use Rattle.law_code_runs.proofs.code_follows.laws.a_script_is_followed_by_its_code.Goals as goal

pub returns : goal.returns
returns g c = script_has_its_code
