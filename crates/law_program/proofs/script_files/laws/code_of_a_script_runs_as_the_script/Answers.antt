use Rattle.law_program.proofs.script_files.Programs.{code_has_one_program}
use Rattle.law_program.proofs.script_files.Runs.{code_runs_as_script}
use Rattle.law_program.proofs.script_files.laws.code_of_a_script_runs_as_the_script.Goals as goal

pub returns-clause-program : goal.returns-clause-program
returns-clause-program c = code_has_one_program

pub returns-clause-runs : goal.returns-clause-runs
returns-clause-runs c = code_runs_as_script
