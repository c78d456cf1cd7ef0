use Rattle.law_typed_pieces.proofs.agreement.Agreement.{blocks_agree}
use Rattle.law_typed_pieces.proofs.agreement.laws.blocks_agree.Goals as goal

pub returns : goal.returns
returns g c = blocks_agree
