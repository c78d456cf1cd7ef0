use Rattle.law_program.proofs.program_runs.Files.{code_file_never_halts}
use Rattle.law_program.proofs.program_runs.laws.verified_code_files_never_halt.Goals as goal

pub returns : goal.returns
returns g c = code_file_never_halts
