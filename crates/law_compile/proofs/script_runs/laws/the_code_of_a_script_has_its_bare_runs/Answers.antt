use Rattle.law_compile.proofs.script_runs.Objects.{script_has_its_bare_runs, code_is_stuck_nowhere_else, code_of_script_writes_nothing_else}
use Rattle.law_compile.proofs.script_runs.laws.the_code_of_a_script_has_its_bare_runs.Goals as goal

pub returns-clause-outcomes : goal.returns-clause-outcomes
returns-clause-outcomes g c = script_has_its_bare_runs

pub returns-clause-stuck : goal.returns-clause-stuck
returns-clause-stuck g c = code_is_stuck_nowhere_else

pub returns-clause-writes : goal.returns-clause-writes
returns-clause-writes g c = code_of_script_writes_nothing_else
