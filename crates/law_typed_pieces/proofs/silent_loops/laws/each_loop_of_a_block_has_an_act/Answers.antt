use Rattle.law_typed_pieces.proofs.silent_loops.Loops.{blocks_have_acts_in_loops}
use Rattle.law_typed_pieces.proofs.silent_loops.laws.each_loop_of_a_block_has_an_act.Goals as goal

pub returns : goal.returns
returns g c = blocks_have_acts_in_loops
