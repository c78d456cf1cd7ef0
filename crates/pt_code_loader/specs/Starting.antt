-- The machine where a run begins (Language Reference 4.1, 4.3).
use Rattle.std.specs.Prelude.{◌≡◌, ℕ, Bool, true, false, List, [], map, length, nat_eq, Option, Some, None}
use Rattle.pt_tree.specs.Syntax.{Name}
use Rattle.pt_base.specs.declared.numbers.BlockId.{BlockId}
use Rattle.pt_heap.specs.declared.object.Object.{Object}
use Rattle.pt_heap.specs.declared.value.Value.{Value}
use Rattle.pt_helper_objects.specs.Objects.{object_of}
use Rattle.pt_helper_objects.specs.declared.HelperKind.{HelperKind}
use Rattle.pt_helper_objects.specs.declared.HelperKind.TheVariants as kind
use Rattle.pt_helper_objects.specs.pt_prelude.declared.kinds.Helper.{Helper}
use Rattle.pt_helper_objects.specs.pt_prelude.Helpers.{block_of}
use Rattle.pt_code_tables.specs.pt_machine_state.pt_code_facts.declared.facts.Blocks.{Blocks}
use Rattle.pt_code_tables.specs.pt_machine_state.pt_code_facts.Facts.{facts_at}
use Rattle.pt_code_tables.specs.pt_builtins.pt_host.World.{Program}
use Rattle.pt_code_tables.specs.pt_builtins.pt_host.Calls.{cells_from, module_block, module_names, module_world}
use Rattle.pt_code_tables.specs.pt_builtins.pt_host.HeapHost.{heap_host}
use Rattle.pt_bare_runs.specs.Strides as bare
use Rattle.sem_code_machine.specs.code_machine.CodeBlocks.{CodeBlocks, machine}
use Rattle.pt_code_tables.specs.Tables.{AreTablesOf}
use Rattle.pt_code_tables.specs.pt_machine_state.declared.machine.Machine.{Machine}
use Rattle.pt_code_tables.specs.pt_machine_state.Views.{Beside, run_of}
use Rattle.pt_code_loader.specs.declared.loading.Loaded.{Loaded}

-- a function of the prelude stands there whose block takes no cells along
abbrev pub stands_at : Blocks → Option BlockId → Bool
stands_at facts (Some b) = nat_eq (length (facts_at facts (record { hidden = true; number = b.0 })).frees) 0
stands_at facts None = false

abbrev pub stands_in : Blocks → Helper → Bool
stands_in facts h = stands_at facts (block_of h)

abbrev pub stands_as : Blocks → HelperKind → Bool
stands_as facts (kind.Function h) = stands_in facts h
stands_as facts k = false

-- the objects of these rows
abbrev pub objects_by : Blocks → List (List ℕ × HelperKind) → List Object
objects_by facts rows = map (λ r. object_of (stands_in facts) r.1) rows

-- no act began, and nothing waits
abbrev pub at_start : Beside
at_start = record { act = 0; waiting = [] }

-- the first cells of a run are those of the module's names
abbrev pub cell_numbers : List Name → List ℕ
cell_numbers xs = map (λ c. c.1) (cells_from 0 xs)

-- a run of the module, which is block 0, begins there, of each program whose tables these are
abbrev pub Begins : Loaded → Machine → Type 0
Begins l m = (program : Program) (code : CodeBlocks Value) → AreTablesOf program code l.tables → program.texts ≡ l.texts
    → run_of program m at_start ≡ bare.start (machine code) (heap_host program) module_block (module_names program) (module_world program)
