use Rattle.pt_calling.proofs.Calls.{calls_as_run}
use Rattle.pt_calling.proofs.laws.calls_open_blocks_as_in_a_run.Goals as goal

pub returns : goal.returns
returns g c = λ program code machine embed ways is_of minds n ends never. calls_as_run program code machine embed ways is_of minds n ends never
