use Rattle.pt_monitor.proofs.Calls.{answer_alike}
use Rattle.pt_monitor.proofs.laws.tools_that_are_alike_answer_alike.Goals as goal

pub returns : goal.returns
returns c = λ a b h. answer_alike a b h
