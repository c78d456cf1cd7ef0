use Rattle.law_compile.proofs.script_objects.Objects.{read_script_is_followed}
use Rattle.law_compile.proofs.script_objects.laws.a_script_that_is_read_is_followed_by_its_code.Goals as goal

pub returns : goal.returns
returns g c = read_script_is_followed
