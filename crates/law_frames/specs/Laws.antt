-- That strides keep the names of a run's activations, from its beginning on.
use Rattle.std.specs.Prelude.{◌≡◌, ℕ, []}
use Rattle.pt_heap.specs.declared.value.Value.{Value}
use Rattle.sem_code.specs.slots.Slots.{State}
use Rattle.sem_run.specs.run.Machine.{BlockId}
use Rattle.sem_rows.specs.pt_host.World.{Names, World, Program}
use Rattle.sem_rows.specs.pt_host.Calls.{module_block, module_names, module_world}
use Rattle.sem_rows.specs.pt_host.HeapHost.{heap_host}
use Rattle.pt_bare_runs.specs.Strides as bare
use Rattle.pt_bare_runs.specs.Strides.{start}
use Rattle.pt_bare_runs.specs.Laws.{Reaches}
use Rattle.sem_rows.specs.sem_code_machine.code_machine.CodeBlocks.{CodeBlocks, machine}
use Rattle.law_frames.specs.RunNames.{StoresHaveNames, RunHasNames}
use Rattle.law_frames.specs.Operands.{CodeNamesItsBlocks}

-- wherever strides lead from the beginning of a block with these names in this world, if that has them
abbrev pub RunsHaveTheirNames : Type 0
RunsHaveTheirNames = (program : Program) (code : CodeBlocks Value) → CodeNamesItsBlocks program code
    → (n : ℕ) (b : BlockId) (x : Names) (w : World) → StoresHaveNames program b (record { names = x; world = w })
    → (s : bare.State (State Value) Names Value World) → Reaches (machine code) (heap_host program) n (start (machine code) (heap_host program) b x w) s
    → RunHasNames program s

-- a run begins with those of its module, if that has no free names
abbrev pub RunsBeginWithTheirNames : Type 0
RunsBeginWithTheirNames = (program : Program) → (program.facts module_block).frees ≡ []
    → StoresHaveNames program module_block (record { names = module_names program; world = module_world program })
