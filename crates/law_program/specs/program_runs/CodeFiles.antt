-- The code of a code file over a prelude's, as a machine of a run: code objects of both are told of
-- their slots as its tables tell (Library Reference, "inspect": code objects).
use Rattle.std.specs.Prelude.{ℕ, Bool, List, [], slice_get}
use Rattle.pt_heap.specs.declared.value.Value.{Value}
use Rattle.pt_code.specs.declared.Code.{Code}
use Rattle.sem_code.specs.slots.CodeObject.{CodeObject}
use Rattle.sem_run.specs.run.Machine.{BlockId, Machine}
use Rattle.sem_run.specs.run.Run.{Write}
use Rattle.sem_run.specs.run.Shown.{Outcome, RunsTo, WritesFirst}
use Rattle.pt_host.specs.HeapHost.{heap_host}
use Rattle.pt_host.specs.World.{World}
use Rattle.pt_host.specs.Calls.{module_names, module_world}
use Rattle.pt_prog.specs.pt_run_script.pt_run_code.law_loading.code_program.CodeProgram.{AreObjectsOf, code_blocks, code_in, number_in, program_of_code, the_module}
use Rattle.law_code_runs.specs.code_run.CodeMachine.{CodeSource, Position, machine}
use Rattle.law_code_jumps.specs.jump_answers.Known.{SlotsKnown}
use Rattle.law_code_jumps.specs.told_code.Told.{told_code}

module _ (prelude c : Code) where
  -- where a block stands in the code that has it
  abbrev pub number_of : BlockId → ℕ
  number_of b = number_in (code_in prelude c b.hidden) b.number

  abbrev pub file_code : (object : (hidden : Bool) → ℕ → CodeObject Value)
      → (known : (hidden : Bool) → ℕ → SlotsKnown) → CodeSource Value
  file_code object known =
      told_code (code_blocks prelude c object)
      (λ b. slice_get (code_in prelude c b.hidden).blocks (number_of b))
      (λ b. known b.hidden (number_of b))

  abbrev pub file_machine : (object : (hidden : Bool) → ℕ → CodeObject Value)
      → (known : (hidden : Bool) → ℕ → SlotsKnown) → Machine (Position Value) Value
  file_machine object known = machine (file_code object known)

-- the run of code objects of both, in which nobody is asked, comes to this outcome
pub record HasRun (prelude c : Code) (known : (hidden : Bool) → ℕ → SlotsKnown) (n : ℕ)
    (o : Outcome Value World) : Type 0 where
  pub object : (hidden : Bool) → ℕ → CodeObject Value
  pub are_objects : (hidden : Bool) → AreObjectsOf (code_in prelude c hidden) (object hidden)
  pub runs : RunsTo (file_machine prelude c object known) (heap_host (program_of_code prelude c)) n
      the_module (module_names (program_of_code prelude c)) (module_world (program_of_code prelude c))
      o

-- it writes this first, whether or not it comes to one
pub data HasFront (prelude c : Code) (known : (hidden : Bool) → ℕ → SlotsKnown) (n : ℕ)
    : List Write → Type 0 where
  nothing : HasFront prelude c known n []
  of_run : (ws : List Write) (object : (hidden : Bool) → ℕ → CodeObject Value)
      → ((hidden : Bool) → AreObjectsOf (code_in prelude c hidden) (object hidden))
      → WritesFirst (file_machine prelude c object known) (heap_host (program_of_code prelude c)) n
      the_module (module_names (program_of_code prelude c)) (module_world (program_of_code prelude c))
      ws → HasFront prelude c known n ws
