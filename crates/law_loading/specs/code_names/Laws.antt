-- What laws say of names in the code of a supported script, and in runs of it.
use Rattle.std.specs.Prelude.{ℕ}
use Rattle.pt_tree.specs.Syntax.{Stms}
use Rattle.pt_wide.specs.Syntax as wide
use Rattle.pt_heap.specs.declared.value.Value.{Value}
use Rattle.sem_code.specs.slots.Slots.{State}
use Rattle.pt_builtins.specs.pt_host.World.{Names, World}
use Rattle.pt_builtins.specs.pt_host.Calls.{module_names, module_world}
use Rattle.pt_builtins.specs.pt_host.HeapHost.{heap_host}
use Rattle.pt_bare_runs.specs.Strides as bare
use Rattle.pt_bare_runs.specs.Laws.{Reaches}
use Rattle.sem_code_machine.specs.code_machine.CodeBlocks.{machine}
use Rattle.law_compile.specs.script_runs.Blocks.{the_module}
use Rattle.law_compile.specs.script_runs.ProgramBlocks.{program_code}
use Rattle.law_loading.specs.script_program.ScriptProgram.{program_of}
use Rattle.pt_code_loader.specs.declared.loading.Loaded.{Loaded}
use Rattle.law_loading.specs.loaded_scripts.Laws.{AreLoadable, HasTables}
use Rattle.law_frames.specs.RunNames.{RunHasNames}
use Rattle.law_frames.specs.Operands.{CodeNamesItsBlocks}

abbrev pub SupportedCodeNamesItsBlocks : Type 0
SupportedCodeNamesItsBlocks = (first script : wide.Stms) (prelude ss : Stms) (l : Loaded) → AreLoadable first script prelude ss
    → (t : HasTables prelude ss l) → CodeNamesItsBlocks (program_of prelude ss) (program_code prelude ss t.object)

abbrev pub SupportedCodeRunsWithItsNames : Type 0
SupportedCodeRunsWithItsNames = (first script : wide.Stms) (prelude ss : Stms) (l : Loaded) → AreLoadable first script prelude ss
    → (t : HasTables prelude ss l) → (n : ℕ) (s : bare.State (State Value) Names Value World)
    → Reaches (machine (program_code prelude ss t.object)) (heap_host (program_of prelude ss)) n
    (bare.start (machine (program_code prelude ss t.object)) (heap_host (program_of prelude ss)) the_module (module_names (program_of prelude ss))
    (module_world (program_of prelude ss))) s
    → RunHasNames (program_of prelude ss) s
