-- How many values and cells lie on top of the slots.
use Rattle.std.specs.Prelude.{ℕ, zero, suc, List, [], ◌∷◌, Option, Some, None}
use Rattle.pt_heap.specs.declared.value.Value.{Value}
use Rattle.pt_frames.specs.declared.slot.Slot.{Slot}
use Rattle.pt_frames.specs.declared.slot.Slot.TheVariants as slot

-- so many values, the first of which lies lowest, before others
abbrev pub values_before : (above : List Value) → (count : ℕ) → List Slot → Option (List Value)
values_before vs zero slots = Some vs
values_before vs (suc n) (slot.Value v ∷ slots) = values_before (v ∷ vs) n slots
values_before vs (suc n) slots = None

abbrev pub many_values : (count : ℕ) → List Slot → Option (List Value)
many_values n slots = values_before [] n slots

-- the number of the cell that a slot holds
abbrev pub cell_in : Option Slot → Option ℕ
cell_in (Some (slot.Cell n)) = Some n
cell_in o = None

abbrev pub one_cell : List Slot → Option ℕ
one_cell (slot.Cell n ∷ slots) = Some n
one_cell slots = None

abbrev pub cells_before : (above : List ℕ) → (count : ℕ) → List Slot → Option (List ℕ)
cells_before ns zero slots = Some ns
cells_before ns (suc n) (slot.Cell m ∷ slots) = cells_before (m ∷ ns) n slots
cells_before ns (suc n) slots = None

abbrev pub many_cells : (count : ℕ) → List Slot → Option (List ℕ)
many_cells n slots = cells_before [] n slots
