use Rattle.pt_monitor.proofs.Calls.{told_by_mask}
use Rattle.pt_monitor.proofs.laws.a_mask_tells_who_is_wanted.Goals as goal

pub returns : goal.returns
returns c = λ l ts. told_by_mask l ts
