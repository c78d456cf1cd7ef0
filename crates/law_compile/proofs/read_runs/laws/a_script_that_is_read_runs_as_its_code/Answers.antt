use Rattle.law_compile.proofs.read_runs.Read.{read_script_has_its_bare_runs, read_script_writes_as_its_code, code_of_read_script_is_never_stuck, read_script_runs_as_its_code}
use Rattle.law_compile.proofs.read_runs.laws.a_script_that_is_read_runs_as_its_code.Goals as goal

pub returns-clause-bare : goal.returns-clause-bare
returns-clause-bare g c = read_script_has_its_bare_runs

pub returns-clause-runs : goal.returns-clause-runs
returns-clause-runs g c = read_script_runs_as_its_code

pub returns-clause-writes : goal.returns-clause-writes
returns-clause-writes g c = read_script_writes_as_its_code

pub returns-clause-stuck : goal.returns-clause-stuck
returns-clause-stuck g c = code_of_read_script_is_never_stuck
