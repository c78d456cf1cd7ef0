use Rattle.law_jumps.proofs.acts_in_parts.Scripts.{script_acts_are_in_parts}
use Rattle.law_jumps.proofs.acts_in_parts.laws.acts_begin_in_their_parts.Goals as goal

pub returns : goal.returns
returns g c = script_acts_are_in_parts
