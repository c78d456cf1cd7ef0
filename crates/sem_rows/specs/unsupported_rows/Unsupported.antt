-- Which instructions are supported, and when a run leaves the profile at one that isn't.
use Rattle.std.specs.Prelude.{◌≡◌, ◌⊎◌, ℕ, List, Bool, true, false}
use Rattle.pt_instr.specs.declared.Instr.{Instr}
use Rattle.pt_instr.specs.declared.Instr.TheVariants as instr
use Rattle.pt_heap.specs.declared.value.Value.{Value}
use Rattle.pt_frames.specs.declared.slot.Slot.{Slot}
use Rattle.pt_code.specs.View.{Ins}
use Rattle.sem_code.specs.slots.CodeObject.{CodeObject}
use Rattle.sem_run.specs.run.Host.{Here}
use Rattle.pt_host.specs.World.{Stores, Program}
use Rattle.pt_host.specs.HeapHost.{heap_host}
use Rattle.sem_code_machine.specs.rows.Rows.{row_of}
use Rattle.sem_rows.specs.declared.heap_rows.progress.Progress.{Progress}
use Rattle.sem_rows.specs.heap_rows.Leads.{HasHeapExtras, IsStuck}
use Rattle.sem_rows.specs.heap_rows.Told.{told}
use Rattle.sem_rows.specs.heap_rows.Views.{slots_view}

abbrev pub is_supported : Instr → Bool
-- what no script asks for, and generators (6.2.8, 6.2.9)
is_supported instr.TupleJoin = false
is_supported instr.DictMerge = false
is_supported instr.Super = false
is_supported (instr.MakeGenerator b) = false
is_supported instr.Yield = false
is_supported instr.Delegate = false
is_supported j = true

-- what an instruction comes to is its row whatever the slots and the stores are, unless a bare run is stuck there
unfoldable pub RowsOutside : Instr → Progress → Type 0
RowsOutside j p =
    (program : Program) (code : CodeObject Value) (pc : ℕ) (i : Ins) (h : Here Value) (st : Stores) (slots : List Slot) → HasHeapExtras code
    → IsStuck (row_of (heap_host program) code pc i j (slots_view slots) h st)
    ⊎ (told program code i h p (slots_view slots) st ≡ row_of (heap_host program) code pc i j (slots_view slots) h st)
