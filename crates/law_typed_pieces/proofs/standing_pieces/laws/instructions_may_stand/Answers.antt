use Rattle.law_typed_pieces.proofs.standing_pieces.Script.{instructions_may_stand}
use Rattle.law_typed_pieces.proofs.standing_pieces.laws.instructions_may_stand.Goals as goal

pub returns : goal.returns
returns c = instructions_may_stand
