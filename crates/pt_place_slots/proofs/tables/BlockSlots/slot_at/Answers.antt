use Rattle.std.proofs.Common.{◌∙◌, sym}
use Rattle.pt_place_slots.proofs.Assembly.{no_list}
use Rattle.pt_place_slots.proofs.tables.BlockSlots.slot_at.Goals as goal

pub returns-in-None : goal.returns-in-None
returns-in-None c b told = no_list b c.args.self.now c.requires told c.args.pc.0 c.args.slot (sym c.at.ensures ∙ c.in-None.is)
