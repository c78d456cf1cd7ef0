-- What answers come to where an iterator, an item, or several values are awaited.
use Rattle.std.specs.Prelude.{ℕ, List, ◌∷◌, ◌++◌, Option, Some, None, length, map, nat_eq, if◌then◌else◌}
use Rattle.pt_base.specs.declared.numbers.Pc.{Pc}
use Rattle.pt_base.specs.declared.what.What.TheVariants.{Feature, Helper}
use Rattle.pt_heap.specs.declared.value.Value.{Value}
use Rattle.pt_frames.specs.declared.slot.Slot.{Slot}
use Rattle.pt_frames.specs.declared.slot.Slot.TheVariants as slot
use Rattle.pt_content.specs.declared.answer.PrimAns.{PrimAns}
use Rattle.pt_content.specs.declared.answer.PrimAns.TheVariants as prim
use Rattle.pt_block_calls.specs.pt_operators.pt_moves.sem_rows.declared.heap_rows.progress.Progress.{Progress}
use Rattle.pt_block_calls.specs.pt_operators.pt_moves.sem_rows.declared.heap_rows.progress.Progress.TheVariants as progress
use Rattle.pt_block_calls.specs.pt_operators.Operates.{progress_of}

-- an iterator that is given lies above the slots, and an item above its iterator
abbrev pub over_iterator : Option Value → List Slot → List Slot
over_iterator (Some v) slots = slot.Iter v ∷ slots
over_iterator None slots = slots

abbrev pub over_item : (iterator : Value) → Option Value → List Slot → List Slot
over_item it (Some v) slots = slot.Value v ∷ (slot.Iter it ∷ slots)
over_item it None slots = slots

-- where there is no further item it goes to a place
abbrev pub progress_of_item : Pc → PrimAns → Progress
progress_of_item to prim.End = progress.Goto to
progress_of_item to answer = progress_of answer

-- several values, if they are so many
abbrev pub progress_of_row : (count : ℕ) → PrimAns → Progress
progress_of_row n (prim.Value v) = progress.Outside Feature
progress_of_row n (prim.Values vs) = if nat_eq (length vs) n then progress.Next else progress.Outside Feature
progress_of_row n prim.End = progress.Outside Feature
progress_of_row n (prim.Raise class arg) = progress.Fails class arg
progress_of_row n (prim.Help helper vs inverted) = progress.Outside Helper
progress_of_row n (prim.Print t) = progress.Outside Feature
progress_of_row n (prim.Outside what) = progress.Outside what

abbrev pub over_row : (count : ℕ) → PrimAns → List Slot → List Slot
over_row n (prim.Values vs) slots = if nat_eq (length vs) n then map slot.Value vs ++ slots else slots
over_row n answer slots = slots
