-- What instructions find on top of the slots, and when what code did is an instruction's row.
use Rattle.std.specs.Prelude.{◌≡◌, ◌∷◌, ℕ, List, Option, Some, None}
use Rattle.pt_instr.specs.declared.Instr.{Instr}
use Rattle.pt_instr.specs.declared.Instr.TheVariants as instr
use Rattle.pt_instr.specs.declared.ConstNo.{ConstNo}
use Rattle.pt_heap.specs.declared.value.Value.{Value}
use Rattle.pt_heap.specs.declared.object.Object.{Object}
use Rattle.pt_frames.specs.declared.slot.Slot.{Slot}
use Rattle.pt_frames.specs.declared.slot.Slot.TheVariants as slot
use Rattle.pt_code.specs.View.{Ins}
use Rattle.sem_code.specs.slots.CodeObject.{CodeObject}
use Rattle.sem_run.specs.run.Host.{Here}
use Rattle.sem_rows.specs.pt_host.World.{Stores, Program, with_objects}
use Rattle.sem_rows.specs.pt_host.HeapHost.{heap_host}
use Rattle.sem_rows.specs.pt_host.Answers.{constant_value}
use Rattle.sem_rows.specs.declared.heap_rows.progress.Progress.{Progress}
use Rattle.sem_rows.specs.sem_code_machine.rows.Rows.{row_of}
use Rattle.sem_rows.specs.heap_rows.Leads.{HasHeapTruths}
use Rattle.sem_rows.specs.heap_rows.Told.{told}
use Rattle.sem_rows.specs.heap_rows.Views.{slots_view}

-- the value that a slot holds
abbrev pub value_in : Option Slot → Option Value
value_in (Some (slot.Value v)) = Some v
value_in o = None

-- one value on top, two, three: the last one lies uppermost
abbrev pub one_value : List Slot → Option Value
one_value (slot.Value v ∷ slots) = Some v
one_value slots = None

abbrev pub two_values : List Slot → Option (Value × Value)
two_values (slot.Value w ∷ slot.Value v ∷ slots) = Some (v, w)
two_values slots = None

abbrev pub three_values : List Slot → Option (Value × (Value × Value))
three_values (slot.Value w ∷ slot.Value v ∷ slot.Value u ∷ slots) = Some (u, (v, w))
three_values slots = None

-- a value or an iterator
abbrev pub movable_in : Option Slot → Option Slot
movable_in (Some (slot.Value v)) = Some (slot.Value v)
movable_in (Some (slot.Iter v)) = Some (slot.Iter v)
movable_in o = None

abbrev pub one_movable : List Slot → Option Slot
one_movable (slot.Value v ∷ slots) = Some (slot.Value v)
one_movable (slot.Iter v ∷ slots) = Some (slot.Iter v)
one_movable slots = None

-- what code did with the slots is the row of an instruction, wherever that stands in code that knows its None, True and False
unfoldable pub RowsSlots : Instr → (old : List Slot) → Progress → (new : List Slot) → Type 0
RowsSlots j old p new =
    (program : Program) (code : CodeObject Value) (pc : ℕ) (i : Ins) (h : Here Value) (st : Stores) → HasHeapTruths code
    → told program code i h p (slots_view new) st ≡ row_of (heap_host program) code pc i j (slots_view old) h st

-- the same of one that changes the heap too
unfoldable pub RowsHeap : Instr → (old : List Slot) (heap : List Object) → Progress → (new : List Slot) (grown : List Object) → Type 0
RowsHeap j old heap p new grown =
    (program : Program) (code : CodeObject Value) (pc : ℕ) (i : Ins) (h : Here Value) (st : Stores) → HasHeapTruths code
    → told program code i h p (slots_view new) (with_objects grown st) ≡ row_of (heap_host program) code pc i j (slots_view old) h (with_objects heap st)

-- a constant of code is given, where it has this value
unfoldable pub RowsConstant : Value → (old : List Slot) → Progress → (new : List Slot) → Type 0
RowsConstant v old p new =
    (k : ConstNo) (program : Program) (code : CodeObject Value) (pc : ℕ) (i : Ins) (h : Here Value) (st : Stores) → HasHeapTruths code
    → constant_value program (code.pool.constant k.0) ≡ v
    → told program code i h p (slots_view new) st ≡ row_of (heap_host program) code pc i (instr.Const k) (slots_view old) h st
