use Rattle.law_files.proofs.code_files.Signatures.{module_stands_first}
use Rattle.law_files.proofs.code_files.laws.the_module_stands_first.Goals as goal

pub returns : goal.returns
returns c = module_stands_first
