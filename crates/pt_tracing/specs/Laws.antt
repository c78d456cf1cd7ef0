-- What the law says of trace functions: they change the same in each run for which the machine stands.
use Rattle.std.specs.Prelude.{Some}
use Rattle.pt_heap.specs.declared.value.Value.{Value}
use Rattle.pt_events.specs.declared.EventKind.{EventKind}
use Rattle.sem_run.specs.run.Machine.{Machine}
use Rattle.sem_run.specs.run.Host.{tracer}
use Rattle.sem_run.specs.run.State.{State}
use Rattle.sem_run.specs.run.Hooks.{trace_by_answer, unset_by}
use Rattle.pt_run_state.specs.pt_purposes.sem_rows.pt_host.World.{Names, World, Program}
use Rattle.pt_run_state.specs.pt_purposes.sem_rows.pt_host.HeapHost.{heap_host}
use Rattle.pt_settrace.specs.Tracing.{kind_of}
use Rattle.pt_run_state.specs.pt_purposes.Openers.{Ways}
use Rattle.pt_run_state.specs.declared.machine.Machine.{Machine as Held}
use Rattle.pt_run_state.specs.Stands.{StandsAround}
use Rattle.pt_tracing.specs.Answers.{answered, failed}

module _ {S : Type 0} (program : Program) (machine : Machine S Value) (ways : Ways S) where
  abbrev Run : Type 0
  Run = State S Names Value World

  -- one has answered to an event of the newest frame
  abbrev pub AnswersAsRun : Type 0
  AnswersAsRun = (m : Held) (s : Run) → StandsAround program machine ways m s
      → (k : EventKind) (v : Value)
      → StandsAround program machine ways (answered k v m)
      (trace_by_answer machine (heap_host program) (Some (kind_of k)) v s)

  -- one has raised
  abbrev pub FailsAsRun : Type 0
  FailsAsRun = (m : Held) (s : Run) → StandsAround program machine ways m s
      → StandsAround program machine ways (failed m)
      (unset_by machine (heap_host program) tracer s)
