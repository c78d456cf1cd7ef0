use Rattle.law_typed_pieces.proofs.silent_loops.Loops.{held_jumps_lead_ahead}
use Rattle.law_typed_pieces.proofs.silent_loops.laws.jumps_that_are_held_lead_ahead.Goals as goal

pub returns : goal.returns
returns g c = held_jumps_lead_ahead
