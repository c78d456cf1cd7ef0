use Rattle.pt_common_slots.proofs.Assembly.{one_number}
use Rattle.pt_common_slots.proofs.laws.slots_in_common_have_one_number.Goals as goal

pub returns : goal.returns
returns c b p = one_number b p
