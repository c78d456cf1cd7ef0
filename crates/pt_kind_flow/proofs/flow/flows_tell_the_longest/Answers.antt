use Rattle.pt_kind_flow.proofs.Stages.{are_longest}
use Rattle.pt_kind_flow.proofs.flow.flows_tell_the_longest.Goals as goal

pub returns : goal.returns
returns c = are_longest
