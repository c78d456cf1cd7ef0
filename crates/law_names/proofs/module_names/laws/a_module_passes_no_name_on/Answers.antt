use Rattle.law_names.proofs.module_names.Classes.{module_has_no_frees}
use Rattle.law_names.proofs.module_names.laws.a_module_passes_no_name_on.Goals as goal

pub returns : goal.returns
returns c = λ ss. module_has_no_frees ss
