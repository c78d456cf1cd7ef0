-- What the run of code under a bound on acts is: the bare run of a block, of which it writes all, or a front where it is broken off.
use Rattle.std.specs.Prelude.{◌≡◌, ◌-◌, ◌^◌, ℕ, List, [], Bool, min}
use Rattle.pt_base.specs.Taken.{Pieces}
use Rattle.pt_heap.specs.declared.value.Value.{Value}
use Rattle.sem_run.specs.run.Machine.{BlockId}
use Rattle.sem_run.specs.run.Run.{Write}
use Rattle.sem_rows.specs.pt_host.World.{Names, World, Program}
use Rattle.sem_rows.specs.pt_host.HeapHost.{heap_host}
use Rattle.pt_bare_runs.specs.Strides as bare
use Rattle.pt_bare_runs.specs.Strides.{Outcome}
use Rattle.pt_bare_runs.specs.Laws.{NeverStuck}
use Rattle.pt_bare_writes.specs.Fronts.{RunWritesFirst}
use Rattle.pt_sinks.specs.Writing.{Took, TookFront}
use Rattle.pt_sinks.specs.declared.writing.WriteErr.{WriteErr}
use Rattle.sem_rows.specs.sem_code_machine.code_machine.CodeBlocks.{CodeBlocks, machine}
use Rattle.pt_transfers.specs.pt_machine_state.declared.machine.Machine.{Machine}
use Rattle.pt_transfers.specs.pt_machine_state.Views.{Beside, run_of}
use Rattle.pt_transfers.specs.pt_machine_state.Writing.{kept}
use Rattle.pt_machine.specs.pt_code_tables.declared.tables.CodeTables.{CodeTables}
use Rattle.pt_machine.specs.pt_code_tables.Tables.{AreTablesOf}
use Rattle.pt_runner.specs.declared.ending.Ended.{Ended}
use Rattle.pt_machine.specs.law_frames.RunNames.{StoresHaveNames}
use Rattle.pt_machine.specs.law_frames.Operands.{CodeNamesItsBlocks}
use Rattle.pt_runner.specs.Ends.{IsEnding, block_name}
use Rattle.pt_runner.specs.Work.{Work, RunDoes}

-- a block that is run as the module's, over code of a program, with these names and in this world
pub record ModuleRun : Type 0 where
  pub program : Program
  pub code : CodeBlocks Value
  pub block : BlockId
  pub names : Names
  pub world : World

-- the machine stands where the run starts, the tables are those of its code, which names what its blocks have, and it is stuck nowhere
pub record IsReady (tables : CodeTables) (n : ℕ) (m : Machine) (r : ModuleRun) : Type 0 where
  pub tables_are : AreTablesOf r.program r.code tables
  pub beside : Beside
  pub starts : run_of r.program m beside ≡ bare.start (machine r.code) (heap_host r.program) r.block r.names r.world
  pub none_waits : m.frames.activations ≡ []
  pub no_names : m.here.names ≡ []
  pub names_blocks : CodeNamesItsBlocks r.program r.code
  pub has_names : StoresHaveNames r.program r.block (record { names = r.names; world = r.world })
  pub never_stuck : NeverStuck (machine r.code) (heap_host r.program) n r.block r.names r.world

-- out and the log, each as it was and as it is
module _ (r : ModuleRun) (n : ℕ) (events : Bool) where
  module _ (x : Ended) (out_old out_new log_old log_new : Pieces → Pieces → Type 0) where
    -- the run came to this outcome by this work, and all that it writes was taken, of the log's lines those that are wanted
    pub record Finished : Type 0 where
      pub outcome : Outcome Value World
      pub work : Work
      pub does : RunDoes (machine r.code) (heap_host r.program) n r.block r.names r.world outcome work
      pub units : outcome.units ≡ x.totals.acts
      pub instructions : x.totals.instructions ≡ min work.instructions (2 ^ 64 - 1)
      pub depth : x.totals.depth ≡ work.depth
      pub ends : IsEnding (block_name r.program) x.end outcome.ending
      pub took : Took out_old out_new log_old log_new (kept events outcome.written)

  module _ (out_old out_new log_old log_new : Pieces → Pieces → Type 0) where
    -- the run writes this first, and of that a front was taken
    pub record BrokeOff (why : WriteErr) : Type 0 where
      pub written : List Write
      pub writes_first : RunWritesFirst (machine r.code) (heap_host r.program) n r.block r.names r.world written
      pub took : TookFront out_old out_new log_old log_new why (kept events written)
