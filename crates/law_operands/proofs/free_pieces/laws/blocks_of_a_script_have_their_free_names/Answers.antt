use Rattle.law_operands.proofs.free_pieces.Script.{blocks_have_free_names}
use Rattle.law_operands.proofs.free_pieces.laws.blocks_of_a_script_have_their_free_names.Goals as goal

pub returns : goal.returns
returns c = blocks_have_free_names
