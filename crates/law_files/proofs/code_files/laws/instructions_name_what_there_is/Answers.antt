use Rattle.law_files.proofs.code_files.Instructions.{instructions_name_inside}
use Rattle.law_files.proofs.code_files.laws.instructions_name_what_there_is.Goals as goal

pub returns : goal.returns
returns c = instructions_name_inside
