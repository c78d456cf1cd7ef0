use Rattle.pt_asking.proofs.Alike.{asks_as_run}
use Rattle.pt_asking.proofs.laws.those_are_asked_that_a_run_asks.Goals as goal

pub returns : goal.returns
returns g c = λ machine host minds. asks_as_run machine host minds
