use Rattle.law_typed_pieces.proofs.leave_targets.Targets.{blocks_agree_there}
use Rattle.law_typed_pieces.proofs.leave_targets.laws.blocks_agree_where_instructions_stand.Goals as goal

pub returns : goal.returns
returns g c = blocks_agree_there
