-- What fails up to a place fails up to one behind it.
use Rattle.std.proofs.Common.{arith}
use Rattle.sem_fits.specs.fits.Block.{Block}
use Rattle.sem_fits.proofs.fits.OneAnswer.{disagrees_up}
use Rattle.pt_refusals.specs.Laws.{DisagreementStays}

pub disagreement_stays : (b : Block) → DisagreementStays b
disagreement_stays b p q le d = disagrees_up (λ r i e l. omega (arith, l, le)) d
