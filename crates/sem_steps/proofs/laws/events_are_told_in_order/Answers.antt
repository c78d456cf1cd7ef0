use Rattle.sem_steps.proofs.InOrder.{asks_in_order}
use Rattle.sem_steps.proofs.laws.events_are_told_in_order.Goals as goal

pub returns : goal.returns
returns g c = asks_in_order
