use Rattle.law_files.proofs.code_files.Whole.{script_has_file}
use Rattle.law_files.proofs.code_files.laws.a_script_has_a_file.Goals as goal

pub returns : goal.returns
returns c = script_has_file
