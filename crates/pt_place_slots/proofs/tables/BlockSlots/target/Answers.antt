use Rattle.pt_place_slots.proofs.Answering.{answer_jumps}
use Rattle.pt_place_slots.proofs.tables.BlockSlots.target.Goals as goal

pub returns : goal.returns
returns c = λ b tells starts ks got. c.target.ensures b tells.common (answer_jumps b c.args.self.now c.requires tells) starts ks got
