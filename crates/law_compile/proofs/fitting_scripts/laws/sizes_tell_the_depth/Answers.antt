use Rattle.law_compile.proofs.fitting_scripts.Fitting.{sizes_tell_the_depth}
use Rattle.law_compile.proofs.fitting_scripts.laws.sizes_tell_the_depth.Goals as goal

pub returns : goal.returns
returns c = sizes_tell_the_depth
