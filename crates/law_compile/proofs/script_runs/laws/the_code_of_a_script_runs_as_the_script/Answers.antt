use Rattle.law_compile.proofs.script_runs.Objects.{code_runs_as_its_script}
use Rattle.law_compile.proofs.script_runs.laws.the_code_of_a_script_runs_as_the_script.Goals as goal

pub returns : goal.returns
returns g c = code_runs_as_its_script
