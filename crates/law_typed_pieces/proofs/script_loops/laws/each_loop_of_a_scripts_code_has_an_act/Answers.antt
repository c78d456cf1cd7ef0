use Rattle.law_typed_pieces.proofs.script_loops.Loops.{scripts_have_acts_in_loops}
use Rattle.law_typed_pieces.proofs.script_loops.laws.each_loop_of_a_scripts_code_has_an_act.Goals as goal

pub returns : goal.returns
returns g c = scripts_have_acts_in_loops
