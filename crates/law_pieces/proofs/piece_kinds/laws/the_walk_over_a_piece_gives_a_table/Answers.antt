use Rattle.law_pieces.proofs.piece_kinds.TableLaw.{walk_is_table}
use Rattle.law_pieces.proofs.piece_kinds.laws.the_walk_over_a_piece_gives_a_table.Goals as goal

pub returns : goal.returns
returns g c = walk_is_table
