use Rattle.law_loading.proofs.loaded_scripts.Loading.{code_has_its_module}
use Rattle.law_loading.proofs.loaded_scripts.laws.a_code_has_its_module.Goals as goal

pub returns : goal.returns
returns c = code_has_its_module
