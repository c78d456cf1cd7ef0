use Rattle.sem_run.specs.run.Follows.{By}
use Rattle.sem_run.proofs.run.Sides.{follow_beside}
use Rattle.sem_run.proofs.run.laws.hidden_blocks_may_have_a_machine_of_their_own.Goals as goal

pub returns : goal.returns
returns g c = λ prelude never first second at stands lands law host ask n b names w d. follow_beside prelude never first second (By at) (By stands) (By lands) law host ask n b names w d
