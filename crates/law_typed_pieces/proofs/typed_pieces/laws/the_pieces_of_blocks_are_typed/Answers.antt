use Rattle.law_typed_pieces.proofs.typed_pieces.Blocks.{pieces_are_typed}
use Rattle.law_typed_pieces.proofs.typed_pieces.laws.the_pieces_of_blocks_are_typed.Goals as goal

pub returns : goal.returns
returns g c = pieces_are_typed
