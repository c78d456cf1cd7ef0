use Rattle.law_code_jumps.proofs.told_code.NeverHalts.{fitting_code_never_halts}
use Rattle.law_code_jumps.proofs.told_code.laws.code_that_fits_never_halts.Goals as goal

pub returns : goal.returns
returns g c = fitting_code_never_halts
