use Rattle.law_names.proofs.module_names.Taken.{all_owned}
use Rattle.law_names.proofs.module_names.laws.what_a_module_hands_on_is_its_own.Goals as goal

pub returns : goal.returns
returns g c = λ v ss is. all_owned v ss is
