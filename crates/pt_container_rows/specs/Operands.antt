-- The iterator on top of the slots, and the value that stands so many slots down.
use Rattle.std.specs.Prelude.{ℕ, zero, suc, List, ◌∷◌, Option, Some, None, slice_get}
use Rattle.pt_heap.specs.declared.value.Value.{Value}
use Rattle.pt_frames.specs.declared.slot.Slot.{Slot}
use Rattle.pt_frames.specs.declared.slot.Slot.TheVariants as slot
use Rattle.pt_block_calls.specs.pt_operators.pt_moves.Operands.{value_in}

abbrev pub iterator_in : Option Slot → Option Value
iterator_in (Some (slot.Iter v)) = Some v
iterator_in o = None

abbrev pub one_iterator : List Slot → Option Value
one_iterator (slot.Iter v ∷ slots) = Some v
one_iterator slots = None

-- the uppermost slot is the first
abbrev pub value_down : ℕ → List Slot → Option Value
value_down zero slots = None
value_down (suc n) slots = value_in (slice_get slots n)
