use Rattle.law_parts.proofs.script_parts.Scripts.{blocks_have_parts}
use Rattle.law_parts.proofs.script_parts.laws.the_statements_of_a_script_lie_in_their_parts.Goals as goal

pub returns : goal.returns
returns g c = blocks_have_parts
