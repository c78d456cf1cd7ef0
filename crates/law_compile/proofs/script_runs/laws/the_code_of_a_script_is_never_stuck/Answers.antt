use Rattle.law_compile.proofs.script_runs.Objects.{code_is_never_stuck}
use Rattle.law_compile.proofs.script_runs.laws.the_code_of_a_script_is_never_stuck.Goals as goal

pub returns : goal.returns
returns g c = code_is_never_stuck
