-- What the laws say of a code that has a file, whose blocks fit and which is supported, over a prelude that is such a code too.
use Rattle.std.specs.Prelude.{◌≡◌, ℕ, Bool}
use Rattle.pt_heap.specs.declared.value.Value.{Value}
use Rattle.pt_code.specs.declared.Code.{Code}
use Rattle.pt_code.specs.File.{HasFile}
use Rattle.sem_code.specs.slots.CodeObject.{CodeObject}
use Rattle.sem_fits.specs.fits.Fits.{AllFit}
use Rattle.pt_builtins.specs.pt_host.Calls.{module_names, module_world}
use Rattle.pt_builtins.specs.pt_host.HeapHost.{heap_host}
use Rattle.pt_bare_runs.specs.Laws.{NeverStuck}
use Rattle.sem_code_machine.specs.code_machine.CodeBlocks.{machine}
use Rattle.law_frames.specs.RunNames.{StoresHaveNames}
use Rattle.law_frames.specs.Operands.{CodeNamesItsBlocks}
use Rattle.pt_code_loader.specs.pt_code_tables.Tables.{AreTablesOf}
use Rattle.pt_code_loader.specs.declared.loading.Loaded.{Loaded}
use Rattle.pt_code_loader.specs.Loaded.{IsLoadedProgram}
use Rattle.pt_supported_code.specs.Built.{BuiltCode}
use Rattle.law_loading.specs.code_program.CodeProgram.{AreObjectsOf, code_blocks, code_in, program_of_code, the_module}

pub record IsRunnable (c : Code) : Type 0 where
  pub has_file : HasFile c
  pub fit : AllFit c
  pub built : BuiltCode c

-- code objects of the blocks of a prelude and of a code over it; the tables are those of the program and of these, and its texts are the program's
pub record HasCodeTables (prelude c : Code) (l : Loaded) : Type 0 where
  pub object : (hidden : Bool) → ℕ → CodeObject Value
  pub are : (hidden : Bool) → AreObjectsOf (code_in prelude c hidden) (object hidden)
  pub tables : AreTablesOf (program_of_code prelude c) (code_blocks prelude c object) l.tables
  pub texts : (program_of_code prelude c).texts ≡ l.texts

abbrev pub LoadedCodeHasTables : Type 0
LoadedCodeHasTables = (prelude c : Code) (l : Loaded) → IsRunnable prelude → IsRunnable c → IsLoadedProgram prelude c l → HasCodeTables prelude c l

abbrev pub BuiltCodeNamesItsBlocks : Type 0
BuiltCodeNamesItsBlocks = (prelude c : Code) (object : (hidden : Bool) → ℕ → CodeObject Value) → IsRunnable prelude → IsRunnable c
    → ((hidden : Bool) → AreObjectsOf (code_in prelude c hidden) (object hidden))
    → CodeNamesItsBlocks (program_of_code prelude c) (code_blocks prelude c object)

abbrev pub RunOfCodeBeginsWithNames : Type 0
RunOfCodeBeginsWithNames = (prelude c : Code) → IsRunnable c → StoresHaveNames (program_of_code prelude c) the_module
    (record { names = module_names (program_of_code prelude c); world = module_world (program_of_code prelude c) })

abbrev pub BuiltCodeIsNeverStuck : Type 0
BuiltCodeIsNeverStuck = (prelude c : Code) (object : (hidden : Bool) → ℕ → CodeObject Value) → IsRunnable prelude → IsRunnable c
    → ((hidden : Bool) → AreObjectsOf (code_in prelude c hidden) (object hidden)) → (n : ℕ)
    → NeverStuck (machine (code_blocks prelude c object)) (heap_host (program_of_code prelude c)) n the_module
    (module_names (program_of_code prelude c)) (module_world (program_of_code prelude c))
