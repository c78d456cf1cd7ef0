use Rattle.law_code_runs.proofs.code_follows.Objects.{blocks_have_their_code}
use Rattle.law_code_runs.proofs.code_follows.laws.blocks_have_the_code_of_their_pieces.Goals as goal

pub returns : goal.returns
returns g c = blocks_have_their_code
