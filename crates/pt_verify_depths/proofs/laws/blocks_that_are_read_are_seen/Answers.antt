use Rattle.pt_verify_depths.proofs.ViewLemmas.{blocks_are_seen}
use Rattle.pt_verify_depths.proofs.laws.blocks_that_are_read_are_seen.Goals as goal

pub returns : goal.returns
returns c = blocks_are_seen
