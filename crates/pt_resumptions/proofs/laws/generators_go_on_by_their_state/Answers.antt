use Rattle.pt_resumptions.proofs.Resuming.{goes_on_by_state}
use Rattle.pt_resumptions.proofs.laws.generators_go_on_by_their_state.Goals as goal

pub returns : goal.returns
returns g c = goes_on_by_state
