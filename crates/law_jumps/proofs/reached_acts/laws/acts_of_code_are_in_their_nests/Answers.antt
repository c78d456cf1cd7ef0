use Rattle.std.proofs.Common.{◌≡◌, true}
use Rattle.law_jumps.proofs.reached_acts.Marks.{acts_are_said}
use Rattle.law_jumps.proofs.reached_acts.laws.acts_of_code_are_in_their_nests.Goals as goal

pub returns : goal.returns
returns g c = λ source code b says. acts_are_said (λ s n. says s n ≡ true) source code b
