use Rattle.law_pieces.proofs.piece_kinds.PieceLaw.{walk_is_right}
use Rattle.law_pieces.proofs.piece_kinds.laws.the_walk_over_a_piece_is_right.Goals as goal

pub returns : goal.returns
returns g c = walk_is_right
