use Rattle.std.proofs.Common.{◌∙◌, sym}
use Rattle.pt_place_slots.proofs.Assembly.{no_slot, has_slot}
use Rattle.pt_place_slots.proofs.Elements.{entry_below}
use Rattle.pt_place_slots.proofs.tables.BlockSlots.slot_in.Goals as goal

pub slot-requires-clause-inside : goal.slot-requires-clause-inside
slot-requires-clause-inside c = (c.requires.sound.listed c.args.pc.0 c.args.listed c.requires.here).inside

pub number-requires-clause-inside : goal.number-requires-clause-inside
number-requires-clause-inside c = entry_below c.args.self.now.places.items c.args.pc.0 c.args.listed c.requires.here

pub returns-in-None : goal.returns-in-None
returns-in-None c b told = no_slot b c.args.self.now c.requires.sound told c.args.pc.0 c.args.slot c.args.listed c.requires.here
    (sym c.in-None.is ∙ c.slot.ensures)

pub returns-in-Some : goal.returns-in-Some
returns-in-Some c b told = has_slot b c.args.self.now c.requires.sound told c.args.pc.0 c.args.slot c.args.listed c.requires.here
    c.in-Some.kind c.number.result (sym c.in-Some.is ∙ c.slot.ensures) c.number.ensures.root
