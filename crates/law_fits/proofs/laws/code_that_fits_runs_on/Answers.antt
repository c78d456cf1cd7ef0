use Rattle.law_fits.proofs.Runs.{runs_on}
use Rattle.law_fits.proofs.laws.code_that_fits_runs_on.Goals as goal

pub returns : goal.returns
returns g c = λ code blocks are host opens n b names world. runs_on code blocks are host opens n b names world
