use Rattle.pt_verify.proofs.LawLemmas.{fitting_is_unrefused}
use Rattle.pt_verify.proofs.laws.code_that_fits_is_verified.Goals as goal

pub returns : goal.returns
returns c = fitting_is_unrefused
