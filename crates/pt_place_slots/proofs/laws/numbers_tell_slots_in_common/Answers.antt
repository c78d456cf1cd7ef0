use Rattle.pt_place_slots.proofs.laws.numbers_tell_slots_in_common.Goals as goal

pub returns : goal.returns
returns c b s told slot q r m n one other = c.slots_in_common_have_one_number.ensures b b.size s.joins.nodes.items told.common slot q r m n one.root other.root
