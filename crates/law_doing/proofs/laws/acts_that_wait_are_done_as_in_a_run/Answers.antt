use Rattle.law_doing.proofs.Acts.{acts_as_run}
use Rattle.law_doing.proofs.laws.acts_that_wait_are_done_as_in_a_run.Goals as goal

pub returns : goal.returns
returns g c = λ program code machine embed ways is_of minds n ends by_itself. acts_as_run program code machine embed ways is_of minds n ends by_itself
