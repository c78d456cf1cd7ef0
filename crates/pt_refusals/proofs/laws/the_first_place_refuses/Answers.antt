use Rattle.pt_refusals.proofs.Refusing.{first_place_refuses}
use Rattle.pt_refusals.proofs.laws.the_first_place_refuses.Goals as goal

pub returns : goal.returns
returns c = first_place_refuses
