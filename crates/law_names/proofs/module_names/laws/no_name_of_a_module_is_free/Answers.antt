use Rattle.law_names.proofs.module_names.Variables.{not_free}
use Rattle.law_names.proofs.module_names.laws.no_name_of_a_module_is_free.Goals as goal

pub returns : goal.returns
returns g c = λ v ss within x none free. not_free v ss none within x free
