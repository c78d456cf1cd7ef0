use Rattle.pt_common_slots.proofs.Law.{common_kept, kept_common}
use Rattle.pt_common_slots.proofs.laws.slots_are_shared_by_steps.Goals as goal

pub returns : goal.returns
returns c b p agree lead slot q r = ((λ h. common_kept b p agree lead h), (λ h. kept_common b p slot q r h))
