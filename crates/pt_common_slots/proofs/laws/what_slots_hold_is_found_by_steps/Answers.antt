use Rattle.pt_common_slots.proofs.HeldLaw.{by_classes}
use Rattle.pt_common_slots.proofs.laws.what_slots_hold_is_found_by_steps.Goals as goal

pub returns : goal.returns
returns c b p = by_classes b p
