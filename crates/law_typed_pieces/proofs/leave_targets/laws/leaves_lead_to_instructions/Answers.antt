use Rattle.law_typed_pieces.proofs.leave_targets.Targets.{leaves_lead_inside}
use Rattle.law_typed_pieces.proofs.leave_targets.laws.leaves_lead_to_instructions.Goals as goal

pub returns : goal.returns
returns g c = leaves_lead_inside
