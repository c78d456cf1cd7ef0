use Rattle.std.proofs.Common.{arith}
use Rattle.pt_place_slots.proofs.Assembly.{root_inside}
use Rattle.pt_place_slots.proofs.tables.BlockSlots.number.Goals as goal

pub overflow_cast-result : goal.overflow_cast-result
overflow_cast-result c =
    let few = c.requires.sound.few in
    let inside = root_inside c.root_at-number.ensures in
    omega (arith, few, inside)
