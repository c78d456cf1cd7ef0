-- What the law says of the end of the module: each run ends so for which the machine stands.
use Rattle.std.specs.Prelude.{◌≡◌, ℕ, [], Bool, Option}
use Rattle.pt_heap.specs.declared.value.Value.{Value}
use Rattle.sem_run.specs.run.Machine.{Machine}
use Rattle.sem_run.specs.run.Events.{Event}
use Rattle.sem_run.specs.run.State.{State}
use Rattle.sem_steps.specs.Steps.{minded}
use Rattle.pt_beginning.specs.pt_host.World.{Names, World, Program}
use Rattle.pt_beginning.specs.pt_host.HeapHost.{heap_host}
use Rattle.pt_pendings.specs.declared.reply.End.{End}
use Rattle.pt_pendings.specs.declared.pending.Pending.TheVariants.{Ending}
use Rattle.pt_beginning.specs.pt_machine_state.declared.blocks.BlockCode.{BlockCode}
use Rattle.pt_beginning.specs.pt_purposes.declared.standing.Standing.{Standing}
use Rattle.pt_beginning.specs.pt_purposes.Seen.{block_of}
use Rattle.pt_beginning.specs.pt_purposes.Openers.{Ways}
use Rattle.pt_beginning.specs.pt_run_state.declared.machine.Machine.{Machine as Held}
use Rattle.pt_beginning.specs.pt_run_state.declared.machine.Waiting.{Waiting}
use Rattle.pt_beginning.specs.pt_run_state.declared.machine.Turn.TheVariants.{Ends}
use Rattle.pt_beginning.specs.pt_run_state.Stands.{IsToTell}
use Rattle.pt_beginning.specs.pt_run_state.Advances.{Behind}
use Rattle.pt_beginning.specs.pt_telling.Laws.{IsNamed, Comes}
use Rattle.pt_closing.specs.Ending.{module_end}

abbrev pub ending_so : Standing → Option Value → End → Waiting
ending_so z active e = record { standing = z; active = active; pending = Ending e }

module _ {S : Type 0} (program : Program) (machine : Machine S Value) (ways : Ways S)
    (minds : Event Value → Bool) (n : ℕ) where
  abbrev Run : Type 0
  Run = State S Names Value World

  -- nothing more is told of the end of the only block that is open
  abbrev pub ModuleEndsAsRun : Type 0
  ModuleEndsAsRun = (m : Held) (z : Standing) (active : Option Value) (e : End) (s : Run)
      → IsToTell program machine ways m (ending_so z active e) [] s → m.openers ≡ []
      → (block : BlockCode) → IsNamed program (block_of m.code.here) block
      → (t : Run) × (Comes program machine ways minds n s [] t
      × Behind program machine (heap_host program) ways (minded minds) n m t
      (Ends (module_end block e m)))
