-- When what code did is an instruction's row, by all that it stands on.
use Rattle.std.specs.Prelude.{◌≡◌, ℕ, List}
use Rattle.pt_instr.specs.declared.Instr.{Instr}
use Rattle.pt_heap.specs.declared.value.Value.{Value}
use Rattle.pt_frames.specs.declared.slot.Slot.{Slot}
use Rattle.pt_code.specs.View.{Ins}
use Rattle.sem_code.specs.slots.CodeObject.{CodeObject}
use Rattle.sem_run.specs.run.Host.{Here}
use Rattle.pt_host.specs.World.{Stores, Program}
use Rattle.pt_host.specs.HeapHost.{heap_host}
use Rattle.sem_code_machine.specs.rows.Rows.{row_of}
use Rattle.sem_rows.specs.declared.heap_rows.progress.Progress.{Progress}
use Rattle.sem_rows.specs.heap_rows.Leads.{HasHeapTruths}
use Rattle.sem_rows.specs.heap_rows.Told.{told}
use Rattle.sem_rows.specs.heap_rows.Views.{slots_view}

-- where an instruction stands: in which program and code, and in which activation
pub record Standpoint : Type 0 where
  pub program : Program
  pub code : CodeObject Value
  pub here : Here Value

-- what code did with the slots and the stores is the row of an instruction, at a standpoint of which this holds
unfoldable pub RowsIn : (Standpoint → Type 0) → Instr → (old : List Slot) → Stores → Progress → (new : List Slot) → Stores → Type 0
RowsIn Where j old st p new st1 =
    (s : Standpoint) (pc : ℕ) (i : Ins) → HasHeapTruths s.code → Where s
    → told s.program s.code i s.here p (slots_view new) st1 ≡ row_of (heap_host s.program) s.code pc i j (slots_view old) s.here st
