use Rattle.law_compile.proofs.script_objects.Objects.{objects_have_their_code}
use Rattle.law_compile.proofs.script_objects.laws.objects_of_a_script_have_its_code.Goals as goal

pub returns : goal.returns
returns g c = objects_have_their_code
