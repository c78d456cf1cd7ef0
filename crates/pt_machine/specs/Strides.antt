-- When the machine does strides of runs over code.
use Rattle.std.specs.Prelude.{◌≡◌, ℕ}
use Rattle.pt_heap.specs.declared.value.Value.{Value}
use Rattle.pt_code_tables.specs.pt_builtins.pt_host.World.{Program}
use Rattle.pt_code_tables.specs.pt_builtins.pt_host.HeapHost.{heap_host}
use Rattle.pt_bare_runs.specs.Strides.{stride as stride_of}
use Rattle.sem_code_machine.specs.code_machine.CodeBlocks.{CodeBlocks, machine}
use Rattle.pt_code_tables.specs.pt_machine_state.declared.machine.Machine.{Machine}
use Rattle.pt_code_tables.specs.pt_machine_state.declared.machine.Stride.{Stride}
use Rattle.pt_code_tables.specs.pt_machine_state.declared.writes.Writes.{Writes}
use Rattle.pt_code_tables.specs.pt_machine_state.Views.{Beside, AllWait, IsPlaced, block_of, run_of}
use Rattle.pt_code_tables.specs.pt_machine_state.Strode.{Strode}
use Rattle.pt_code_tables.specs.declared.tables.CodeTables.{CodeTables}
use Rattle.pt_code_tables.specs.Tables.{AreTablesOf}
use Rattle.pt_code_tables.specs.pt_machine_state.pt_code_facts.sem_rows.heap_rows.Views.{names_view}
use Rattle.law_frames.specs.RunNames.{HasItsNames}
use Rattle.law_frames.specs.Operands.{CodeNamesItsBlocks}

-- the code names what its blocks have, and the newest activation has the names of its block, and places for the local ones
pub record MachineHasNames (program : Program) (code : CodeBlocks Value) (m : Machine) : Type 0 where
  pub names_blocks : CodeNamesItsBlocks program code
  pub here : HasItsNames (program.facts (block_of m.here)) (names_view (program.facts (block_of m.here)) m.here)
  pub placed : IsPlaced program m.here

-- the machine did a stride of each run that it is in and in which it has its names, where n units may be taken
unfoldable pub Strides : CodeTables → (n : ℕ) → Stride → (old : Machine) (written : Writes) → (new : Machine) (writes : Writes) → Type 0
Strides tables n r old written new writes =
    (program : Program) (code : CodeBlocks Value) (x : Beside) → AreTablesOf program code tables → MachineHasNames program code old
    → AllWait program code (block_of old.here) old.frames.activations x.waiting
    → Strode program code (stride_of (machine code) (heap_host program) n (run_of program old x)) r written new writes
