use Rattle.sem_names.specs.Script.{naming_script}
use Rattle.sem_names.proofs.ClassLemmas.{names_of_class}
use Rattle.sem_names.proofs.laws.names_of_a_class_are_in_its_body.Goals as goal

pub returns : goal.returns
returns g c = λ v ss b within x is. names_of_class v (naming_script ss) b within x is
