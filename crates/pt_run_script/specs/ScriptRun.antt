-- The run of a script over a prelude, whose blocks are hidden: that of the control of their trees over the heap, into which nothing hooks (Language
-- Reference 4, 6 to 8).
use Rattle.std.specs.Prelude.{◌≡◌, ◌-◌, ◌^◌, ℕ, List, Bool, Some, min, slice_get}
use Rattle.pt_base.specs.Taken.{Pieces}
use Rattle.pt_tree.specs.Syntax.{Stms}
use Rattle.pt_tree.specs.Blocks.{Block, blocks_script}
use Rattle.pt_heap.specs.declared.value.Value.{Value}
use Rattle.pt_heap.specs.declared.value.Value.TheVariants as value
use Rattle.sem_code.specs.slots.CodeObject.{CodeObject}
use Rattle.law_operands.specs.law_files.sem_compile.compile.ScriptCode.{code_of}
use Rattle.law_operands.specs.law_files.code_files.Numbers.{NumbersFit}
use Rattle.law_compile.specs.fitting_scripts.Laws.{CodeFits}
use Rattle.sem_run.specs.run.Machine.{BlockId}
use Rattle.sem_run.specs.run.Run.{Write}
use Rattle.pt_bare_runs.specs.Strides as bare
use Rattle.pt_bare_runs.specs.Strides.{Outcome}
use Rattle.pt_bare_writes.specs.Fronts.{RunWritesFirst}
use Rattle.sem_rows.specs.pt_host.HeapHost.{heap_host}
use Rattle.sem_rows.specs.pt_host.World.{World}
use Rattle.sem_rows.specs.pt_host.Calls.{module_names, module_world}
use Rattle.sem_rows.specs.heap_rows.Leads.{HasHeapTruths, HasHeapExtras}
use Rattle.pt_machine_state.specs.Writing.{kept}
use Rattle.pt_run_code.specs.pt_runner.Ends.{IsEnding, block_name}
use Rattle.pt_run_code.specs.pt_runner.Work.{Work, RunDoes}
use Rattle.pt_run_code.specs.pt_runner.declared.ending.Ended.{Ended}
use Rattle.law_compile.specs.script_objects.Laws.{HasCode}
use Rattle.pt_run_code.specs.law_loading.script_program.ScriptProgram.{program_of}
use Rattle.law_compile.specs.script_runs.Blocks.{number_of, the_module}
use Rattle.law_compile.specs.script_runs.ProgramBlocks.{program_machine, program_code_machine, text_of}
use Rattle.pt_sinks.specs.Writing.{Took, TookFront}
use Rattle.pt_sinks.specs.declared.writing.WriteErr.{WriteErr}

-- the run of the script over the prelude that may take n acts comes to this outcome
abbrev pub RunsTo : (prelude ss : Stms) → (n : ℕ) → Outcome Value World → Type 0
RunsTo prelude ss n o =
    bare.Runs (program_machine value.None prelude ss) (heap_host (program_of prelude ss)) n the_module (module_names (program_of prelude ss))
    (module_world (program_of prelude ss)) o

-- it writes this first, whether or not it comes to an outcome
abbrev pub ScriptWritesFirst : (prelude ss : Stms) → (n : ℕ) → List Write → Type 0
ScriptWritesFirst prelude ss n ws =
    RunWritesFirst (program_machine value.None prelude ss) (heap_host (program_of prelude ss)) n the_module (module_names (program_of prelude ss))
    (module_world (program_of prelude ss)) ws

-- code objects of the blocks of a script's code, which know the None, True and False of the heap; operations that no tree asks for leave the profile
pub record AreCodeOf (ss : Stms) (object : ℕ → CodeObject Value) : Type 0 where
  pub of_blocks : (k : ℕ) (block : Block) → slice_get (blocks_script ss) k ≡ Some block → HasCode value.None ss k block (object k)
  pub truths : (b : BlockId) → HasHeapTruths (object (number_of ss b))
  pub extras : (b : BlockId) → HasHeapExtras (object (number_of ss b))

-- the run of the code of both, which fits as its numbers do, comes to this outcome by this work
pub record CodeRunsBy (prelude ss : Stms) (n : ℕ) (o : Outcome Value World) (w : Work) : Type 0 where
  pub numbers_fit : NumbersFit (code_of prelude) × NumbersFit (code_of ss)
  pub fits : CodeFits (code_of prelude) × CodeFits (code_of ss)
  pub object : (hidden : Bool) → ℕ → CodeObject Value
  pub are_code : (hidden : Bool) → AreCodeOf (text_of prelude ss hidden) (object hidden)
  pub does : RunDoes (program_code_machine prelude ss object) (heap_host (program_of prelude ss)) n the_module (module_names (program_of prelude ss))
      (module_world (program_of prelude ss)) o w

-- the sinks as they were and as they are
module _ (prelude ss : Stms) (n : ℕ) (events : Bool) (out_old out_new log_old log_new : Pieces → Pieces → Type 0) where
  -- the run came to its outcome: this is how it ended and how many acts it took, how many instructions its code, and over how many slots; and all
  -- that it writes was written
  pub record ScriptFinished (x : Ended) : Type 0 where
    pub outcome : Outcome Value World
    pub runs : RunsTo prelude ss n outcome
    pub work : Work
    pub code_runs : CodeRunsBy prelude ss n outcome work
    pub units : outcome.units ≡ x.totals.acts
    pub instructions : x.totals.instructions ≡ min work.instructions (2 ^ 64 - 1)
    pub depth : x.totals.depth ≡ work.depth
    pub ends : IsEnding (block_name (program_of prelude ss)) x.end outcome.ending
    pub took : Took out_old out_new log_old log_new (kept events outcome.written)

  -- it was broken off, and a front of what it writes was written
  pub record ScriptBrokeOff (why : WriteErr) : Type 0 where
    pub written : List Write
    pub first : ScriptWritesFirst prelude ss n written
    pub took : TookFront out_old out_new log_old log_new why (kept events written)
