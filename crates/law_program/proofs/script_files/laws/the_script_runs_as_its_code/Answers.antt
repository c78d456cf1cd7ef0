use Rattle.law_program.proofs.script_files.Runs.{script_runs_as_code, script_writes_as_code}
use Rattle.law_program.proofs.script_files.laws.the_script_runs_as_its_code.Goals as goal

pub returns-clause-runs : goal.returns-clause-runs
returns-clause-runs c = script_runs_as_code

pub returns-clause-writes : goal.returns-clause-writes
returns-clause-writes c = script_writes_as_code
