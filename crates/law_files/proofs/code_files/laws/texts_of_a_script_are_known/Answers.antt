use Rattle.law_files.proofs.code_files.Named.{texts_are_known}
use Rattle.law_files.proofs.code_files.laws.texts_of_a_script_are_known.Goals as goal

pub returns : goal.returns
returns c = texts_are_known
