use Rattle.law_verified_code.proofs.Verified.{verified_never_halts}
use Rattle.law_verified_code.proofs.laws.verified_code_never_halts.Goals as goal

pub returns : goal.returns
returns g c = verified_never_halts
