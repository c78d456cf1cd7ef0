use Rattle.law_program.proofs.program_runs.Runs.{code_file_runs_are_runs, code_file_fronts_are_fronts}
use Rattle.law_program.proofs.program_runs.laws.bare_runs_of_code_files_are_runs.Goals as goal

pub returns-clause-runs : goal.returns-clause-runs
returns-clause-runs c = code_file_runs_are_runs

pub returns-clause-fronts : goal.returns-clause-fronts
returns-clause-fronts c = code_file_fronts_are_fronts
