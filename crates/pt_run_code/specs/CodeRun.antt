-- The run of a code over a prelude, whose blocks are hidden: that of code objects of their blocks over the heap, from the code's module on, into which
-- nothing hooks (Library Reference, "inspect": code objects; "dis").
use Rattle.std.specs.Prelude.{◌≡◌, ◌-◌, ◌^◌, ℕ, List, [], Bool, min}
use Rattle.pt_base.specs.Taken.{Pieces}
use Rattle.pt_heap.specs.declared.value.Value.{Value}
use Rattle.pt_code.specs.declared.Code.{Code}
use Rattle.sem_code.specs.slots.CodeObject.{CodeObject}
use Rattle.law_files.specs.operands_fit.Laws.{CellsFit}
use Rattle.sem_run.specs.run.Run.{Write}
use Rattle.pt_bare_runs.specs.Strides.{Outcome}
use Rattle.pt_bare_writes.specs.Fronts.{RunWritesFirst}
use Rattle.pt_machine_state.specs.pt_code_facts.sem_rows.pt_host.HeapHost.{heap_host}
use Rattle.pt_machine_state.specs.pt_code_facts.sem_rows.pt_host.World.{World}
use Rattle.pt_machine_state.specs.pt_code_facts.sem_rows.pt_host.Calls.{module_names, module_world}
use Rattle.sem_code_machine.specs.code_machine.CodeBlocks.{machine}
use Rattle.pt_machine_state.specs.Writing.{kept}
use Rattle.pt_runner.specs.Ends.{IsEnding, block_name}
use Rattle.pt_runner.specs.Work.{Work, RunDoes}
use Rattle.pt_runner.specs.declared.ending.Ended.{Ended}
use Rattle.law_loading.specs.code_program.CodeProgram.{AreObjectsOf, code_blocks, code_in, program_of_code, the_module}
use Rattle.pt_sinks.specs.Writing.{Took, TookFront}
use Rattle.pt_sinks.specs.declared.writing.WriteErr.{WriteErr}

-- the run of code objects of the blocks of both that may take n acts comes to this outcome by this work. They differ in how many slots they know at
-- places to which no way comes, which no run sees, and in which operations stand for those that no tree asks for, all of which leave the profile. A
-- block's cells and free names have numbers in one row
pub record CodeRunsTo (prelude c : Code) (n : ℕ) (o : Outcome Value World) (w : Work) : Type 0 where
  pub cells_fit : CellsFit prelude × CellsFit c
  pub object : (hidden : Bool) → ℕ → CodeObject Value
  pub are_objects : (hidden : Bool) → AreObjectsOf (code_in prelude c hidden) (object hidden)
  pub does : RunDoes (machine (code_blocks prelude c object)) (heap_host (program_of_code prelude c)) n the_module
      (module_names (program_of_code prelude c)) (module_world (program_of_code prelude c)) o w

-- it writes this first, whether or not it comes to an outcome
pub data CodeWritesFirst (prelude c : Code) (n : ℕ) : List Write → Type 0 where
  nothing : CodeWritesFirst prelude c n []
  of_run : (ws : List Write) → CellsFit prelude × CellsFit c → (object : (hidden : Bool) → ℕ → CodeObject Value)
      → ((hidden : Bool) → AreObjectsOf (code_in prelude c hidden) (object hidden))
      → RunWritesFirst (machine (code_blocks prelude c object)) (heap_host (program_of_code prelude c)) n the_module
      (module_names (program_of_code prelude c)) (module_world (program_of_code prelude c)) ws
      → CodeWritesFirst prelude c n ws

-- the sinks as they were and as they are
module _ (prelude c : Code) (n : ℕ) (events : Bool) (out_old out_new log_old log_new : Pieces → Pieces → Type 0) where
  -- the run came to its outcome: this is how it ended, how many acts and instructions it took, and over how many slots; and all that it writes was written
  pub record CodeFinished (x : Ended) : Type 0 where
    pub outcome : Outcome Value World
    pub work : Work
    pub runs : CodeRunsTo prelude c n outcome work
    pub units : outcome.units ≡ x.totals.acts
    pub instructions : x.totals.instructions ≡ min work.instructions (2 ^ 64 - 1)
    pub depth : x.totals.depth ≡ work.depth
    pub ends : IsEnding (block_name (program_of_code prelude c)) x.end outcome.ending
    pub took : Took out_old out_new log_old log_new (kept events outcome.written)

  -- it was broken off, and a front of what it writes was written
  pub record CodeBrokeOff (why : WriteErr) : Type 0 where
    pub written : List Write
    pub first : CodeWritesFirst prelude c n written
    pub took : TookFront out_old out_new log_old log_new why (kept events written)
