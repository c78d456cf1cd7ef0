use Rattle.law_files.proofs.code_files.Locals.{parameters_are_locals}
use Rattle.law_files.proofs.code_files.laws.parameters_of_a_script_are_locals.Goals as goal

pub returns : goal.returns
returns c = parameters_are_locals
