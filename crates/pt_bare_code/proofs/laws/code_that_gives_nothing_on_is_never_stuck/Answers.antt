use Rattle.pt_bare_code.proofs.Plain.{never_stuck_where_nothing_is_given_on}
use Rattle.pt_bare_code.proofs.laws.code_that_gives_nothing_on_is_never_stuck.Goals as goal

pub returns : goal.returns
returns g c = λ source code of none host opens n block names world. never_stuck_where_nothing_is_given_on source code of none host opens n block names world
