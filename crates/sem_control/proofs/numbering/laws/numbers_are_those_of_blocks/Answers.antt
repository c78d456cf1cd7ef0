use Rattle.sem_control.proofs.numbering.Below.{numbers_below}
use Rattle.sem_control.proofs.numbering.laws.numbers_are_those_of_blocks.Goals as goal

pub returns : goal.returns
returns c = λ ss is. numbers_below ss is
