use Rattle.pt_applying.proofs.Acting.{acts_apply}
use Rattle.pt_applying.proofs.laws.acts_that_wait_are_applied_as_in_a_run.Goals as goal

pub returns : goal.returns
returns g c = λ program code machine embed ways is_of minds n. acts_apply program code machine embed ways is_of minds n
