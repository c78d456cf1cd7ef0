use Rattle.pt_monitor.proofs.Calls.{switches_off}
use Rattle.pt_monitor.proofs.laws.disable_switches_off_one_place.Goals as goal

pub returns : goal.returns
returns c = λ l ts. switches_off l ts
