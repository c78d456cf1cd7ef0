use Rattle.sem_run.specs.run.Follows.{By}
use Rattle.sem_run.proofs.run.Fronts.{first_never_halts, second_never_halts}
use Rattle.sem_run.proofs.run.laws.machines_that_follow_each_other_never_halt.Goals as goal

pub returns-clause-first : goal.returns-clause-first
returns-clause-first g c = λ first second at stands lands law host ask n b names w d.
    first_never_halts first second host (By at) (By stands) (By lands) law ask n b names w d

pub returns-clause-second : goal.returns-clause-second
returns-clause-second g c = λ first second at stands lands law host ask n b names w d.
    second_never_halts first second host (By at) (By stands) (By lands) law ask n b names w d
