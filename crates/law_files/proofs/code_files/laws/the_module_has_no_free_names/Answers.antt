use Rattle.law_files.proofs.code_files.Module.{module_has_no_free}
use Rattle.law_files.proofs.code_files.laws.the_module_has_no_free_names.Goals as goal

pub returns : goal.returns
returns c = module_has_no_free
