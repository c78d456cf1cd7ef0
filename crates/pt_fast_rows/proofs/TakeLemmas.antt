-- What lies on top of slots.
use Rattle.std.proofs.Common.{◌≡◌, List, [], ◌∷◌, Some}
use Rattle.std.specs.Prelude.{slice_get}
use Rattle.pt_heap.specs.declared.value.Value.{Value}
use Rattle.pt_frames.specs.declared.slot.Slot.{Slot}
use Rattle.pt_frames.specs.declared.slot.Slot.TheVariants as slot
use Rattle.pt_operators.specs.pt_moves.Operands.{one_value, value_in}

pub value_there : (slots : List Slot) (v : Value) → value_in (slice_get slots 0) ≡ Some v → one_value slots ≡ Some v
value_there [] v e = absurd (cc)
value_there (slot.Value w ∷ slots) v e = e
value_there (slot.Cell n ∷ slots) v e = absurd (cc)
value_there (slot.Iter w ∷ slots) v e = absurd (cc)
value_there (slot.Exc w ∷ slots) v e = absurd (cc)
value_there (slot.Pending c ∷ slots) v e = absurd (cc)
value_there (slot.With w ∷ slots) v e = absurd (cc)
