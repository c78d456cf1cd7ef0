use Rattle.pt_refusals.proofs.Placing.{sizes_tell_failures}
use Rattle.pt_refusals.proofs.laws.disagreeing_sizes_are_failures.Goals as goal

pub returns : goal.returns
returns c = sizes_tell_failures
