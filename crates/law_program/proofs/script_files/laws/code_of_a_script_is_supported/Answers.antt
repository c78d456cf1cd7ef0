use Rattle.law_program.proofs.script_files.Supported.{code_is_supported, shallow_code_is_runnable}
use Rattle.law_program.proofs.script_files.laws.code_of_a_script_is_supported.Goals as goal

pub returns-clause-supported : goal.returns-clause-supported
returns-clause-supported c = code_is_supported

pub returns-clause-runnable : goal.returns-clause-runnable
returns-clause-runnable c = shallow_code_is_runnable
