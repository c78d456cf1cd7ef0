use Rattle.pt_pendings.proofs.Raising.{raises_take_place}
use Rattle.pt_pendings.proofs.laws.raises_of_hooks_take_the_place_of_what_waits.Goals as goal

pub returns : goal.returns
returns g c = raises_take_place
