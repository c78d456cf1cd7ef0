use Rattle.pt_block_calls.specs.BlockCalls.{IsPlaceOf}
use Rattle.pt_block_calls.proofs.asking.place_of.Goals as goal

pub returns : goal.returns
unfolding IsPlaceOf
returns c = c.helper_place.ensures
