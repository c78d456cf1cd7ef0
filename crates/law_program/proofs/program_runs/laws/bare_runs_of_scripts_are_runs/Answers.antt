use Rattle.law_program.proofs.program_runs.Runs.{script_runs_are_runs, script_fronts_are_fronts, code_of_script_has_its_run}
use Rattle.law_program.proofs.program_runs.laws.bare_runs_of_scripts_are_runs.Goals as goal

pub returns-clause-runs : goal.returns-clause-runs
returns-clause-runs c = script_runs_are_runs

pub returns-clause-fronts : goal.returns-clause-fronts
returns-clause-fronts c = script_fronts_are_fronts

pub returns-clause-code : goal.returns-clause-code
returns-clause-code c = code_of_script_has_its_run
