use Rattle.law_compile.proofs.script_depths.Sizes.{script_has_its_sizes}
use Rattle.law_compile.proofs.script_depths.laws.a_script_has_its_sizes.Goals as goal

pub returns : goal.returns
returns g c = script_has_its_sizes
