use Rattle.law_pieces.proofs.script_code.Blocks.{script_is_code}
use Rattle.law_pieces.proofs.script_code.laws.the_code_of_a_script_is_its_code.Goals as goal

pub returns : goal.returns
returns g c = script_is_code
