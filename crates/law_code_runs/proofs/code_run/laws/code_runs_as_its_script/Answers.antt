use Rattle.law_code_runs.proofs.code_run.Following.{has_the_runs}
use Rattle.law_code_runs.proofs.code_run.laws.code_runs_as_its_script.Goals as goal

pub returns : goal.returns
returns g c = λ source code of has knows host ask n block names world d. has_the_runs source code of has knows host ask n block names world d
