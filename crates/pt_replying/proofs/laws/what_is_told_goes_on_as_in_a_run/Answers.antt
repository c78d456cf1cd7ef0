use Rattle.pt_replying.proofs.Goes.{tells_on_as_run}
use Rattle.pt_replying.proofs.laws.what_is_told_goes_on_as_in_a_run.Goals as goal

pub returns : goal.returns
returns g c = tells_on_as_run
