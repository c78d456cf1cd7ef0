use Rattle.pt_leave_clashes.proofs.Law.{clash_at_places}
use Rattle.pt_leave_clashes.proofs.laws.leaves_clash_at_their_places.Goals as goal

pub returns : goal.returns
returns c b p = clash_at_places b p
