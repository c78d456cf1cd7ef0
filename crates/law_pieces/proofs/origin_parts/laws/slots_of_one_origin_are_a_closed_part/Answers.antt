use Rattle.law_pieces.proofs.origin_parts.Parts.{origins_are_parts}
use Rattle.law_pieces.proofs.origin_parts.laws.slots_of_one_origin_are_a_closed_part.Goals as goal

pub returns : goal.returns
returns c = origins_are_parts
