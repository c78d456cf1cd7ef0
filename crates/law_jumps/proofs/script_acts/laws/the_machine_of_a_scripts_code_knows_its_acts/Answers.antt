use Rattle.law_jumps.proofs.script_acts.Script.{script_knows_its_acts}
use Rattle.law_jumps.proofs.script_acts.laws.the_machine_of_a_scripts_code_knows_its_acts.Goals as goal

pub returns : goal.returns
returns g c = λ null ss source code b none of told. script_knows_its_acts null ss source code b none of told
