use Rattle.law_compile.proofs.script_runs.Objects.{program_has_its_bare_runs, program_code_writes_nothing_else, program_code_is_never_stuck}
use Rattle.law_compile.proofs.script_runs.laws.the_code_of_a_program_has_its_bare_runs.Goals as goal

pub returns-clause-outcomes : goal.returns-clause-outcomes
returns-clause-outcomes g c = program_has_its_bare_runs

pub returns-clause-writes : goal.returns-clause-writes
returns-clause-writes g c = program_code_writes_nothing_else

pub returns-clause-never_stuck : goal.returns-clause-never_stuck
returns-clause-never_stuck g c = program_code_is_never_stuck
