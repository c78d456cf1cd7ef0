use Rattle.law_jumps.proofs.start_nests.Scripts.{script_starts_in_parts}
use Rattle.law_jumps.proofs.start_nests.laws.statements_start_in_nests.Goals as goal

pub returns : goal.returns
returns g c = script_starts_in_parts
