use Rattle.law_code_runs.proofs.code_run.Fronts.{begins_so}
use Rattle.law_code_runs.proofs.code_run.laws.code_begins_as_its_script.Goals as goal

pub returns : goal.returns
returns g c = λ source code of has knows host ask n block names world d.
    begins_so source code of has knows host ask n block names world d
