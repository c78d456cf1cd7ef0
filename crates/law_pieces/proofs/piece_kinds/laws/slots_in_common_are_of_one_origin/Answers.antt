use Rattle.law_pieces.proofs.piece_kinds.OriginLaw.{table_has_kinds, common_is_of_one_origin, one_origin_is_common}
use Rattle.law_pieces.proofs.piece_kinds.laws.slots_in_common_are_of_one_origin.Goals as goal

pub returns-clause-kinds : goal.returns-clause-kinds
returns-clause-kinds c = table_has_kinds

pub returns-clause-common : goal.returns-clause-common
returns-clause-common c = common_is_of_one_origin

pub returns-clause-origin : goal.returns-clause-origin
returns-clause-origin c = one_origin_is_common
