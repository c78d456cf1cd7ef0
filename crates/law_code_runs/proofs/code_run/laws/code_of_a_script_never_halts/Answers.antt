use Rattle.law_code_runs.proofs.code_run.Fronts.{never_halts}
use Rattle.law_code_runs.proofs.code_run.laws.code_of_a_script_never_halts.Goals as goal

pub returns : goal.returns
returns g c = λ source code of has knows host ask n block names world d.
    never_halts source code of has knows host ask n block names world d
