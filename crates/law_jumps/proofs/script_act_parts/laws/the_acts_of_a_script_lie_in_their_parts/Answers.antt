use Rattle.law_jumps.proofs.script_act_parts.Scripts.{script_acts_lie}
use Rattle.law_jumps.proofs.script_act_parts.laws.the_acts_of_a_script_lie_in_their_parts.Goals as goal

pub returns : goal.returns
returns g c = script_acts_lie
