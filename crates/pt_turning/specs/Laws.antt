-- What laws say of turns in which no instruction is done: they are steps of each run for which the
-- machine stands.
use Rattle.std.specs.Prelude.{◌≡◌, ℕ, [], Bool, Option, Some}
use Rattle.pt_heap.specs.declared.value.Value.{Value}
use Rattle.pt_code.specs.View.{Ins}
use Rattle.sem_code.specs.slots.Slots.{State as CodeState}
use Rattle.sem_code_machine.specs.code_machine.CodeBlocks.{CodeBlocks}
use Rattle.sem_run.specs.run.Machine.{Machine}
use Rattle.sem_run.specs.run.Events.{Event}
use Rattle.sem_run.specs.run.State.{State}
use Rattle.pt_telling.specs.pt_run_state.pt_purposes.sem_rows.pt_host.World.{Names, World, Program}
use Rattle.pt_pendings.specs.declared.reply.End.{End}
use Rattle.pt_pendings.specs.declared.pending.Origin.{Origin}
use Rattle.pt_pendings.specs.declared.pending.Pending.{Pending}
use Rattle.pt_pendings.specs.declared.pending.Pending.TheVariants as pending
use Rattle.pt_telling.specs.pt_transfers.pt_machine_state.declared.blocks.BlockCode.{BlockCode}
use Rattle.pt_telling.specs.pt_transfers.pt_machine_state.Blocks.{IsBlockOf}
use Rattle.pt_telling.specs.pt_run_state.pt_purposes.declared.standing.Standing.{Standing}
use Rattle.pt_telling.specs.pt_run_state.pt_purposes.declared.standing.Standing.TheVariants.{Reraises}
use Rattle.pt_telling.specs.pt_run_state.pt_purposes.Seen.{block_of}
use Rattle.pt_telling.specs.pt_run_state.pt_purposes.Openers.{Ways}
use Rattle.pt_telling.specs.pt_run_state.declared.machine.Machine.{Machine as Held}
use Rattle.pt_telling.specs.pt_run_state.declared.machine.Phase.TheVariants.{Turning}
use Rattle.pt_telling.specs.pt_run_state.declared.machine.Waiting.{Waiting}
use Rattle.pt_telling.specs.pt_run_state.Stands.{Stands, IsToTell}
use Rattle.pt_telling.specs.Laws.{Comes, BehindTold}
use Rattle.pt_turning.specs.Turning.{ends_as, ending, block_ended, going, reraised, begun, gone_on}

abbrev pub waiting : Standing → Option Value → Pending → Waiting
waiting z active p = record { standing = z; active = active; pending = p }

module _ {S : Type 0} (program : Program) (code : CodeBlocks Value) (machine : Machine S Value)
    (ways : Ways S) (minds : Event Value → Bool) (n : ℕ) where
  abbrev Run : Type 0
  Run = State S Names Value World

  abbrev Known : Held → BlockCode → Type 0
  Known m block = IsBlockOf program code (block_of m.code.here) block

  -- a block ends
  abbrev pub EndsAsRun : Type 0
  EndsAsRun = (m : Held) (e : End) (s : Run) → Stands program machine ways m s
      → m.phase ≡ Turning (ends_as e) → (block : BlockCode) → Known m block
      → (t : Run) × (Comes program machine ways minds n s [] t
      × BehindTold program machine ways minds n (ending e) t (block_ended block e m))

  -- a raise goes on from an instruction that the block has
  abbrev pub ReraisesAsRun : Type 0
  ReraisesAsRun = (m : Held) (v : Value) (i : Ins) (s : Run) → Stands program machine ways m s
      → m.phase ≡ Turning (Reraises v)
      → (code.object (block_of m.code.here)).at m.code.here.pc.0 ≡ Some i
      → (block : BlockCode) → Known m block
      → (t : Run) × (Comes program machine ways minds n s [] t
      × BehindTold program machine ways minds n (going block v m) t (reraised block v m))

  -- a block begins, and what waits goes on, once nothing more is told
  abbrev pub BeginsAsRun : Type 0
  BeginsAsRun = (m : Held) (z : Standing) (active : Option Value) (s : Run)
      → IsToTell program machine ways m (waiting z active pending.Starting) [] s
      → (t : Run) × (Comes program machine ways minds n s [] t
      × Stands program machine ways (begun z m) t)

  abbrev pub GoesOnAsRun : Type 0
  GoesOnAsRun = (m : Held) (z : Standing) (active : Option Value) (from : Origin) (s : Run)
      → IsToTell program machine ways m (waiting z active (pending.Going from)) [] s
      → (t : Run) × (Comes program machine ways minds n s [] t
      × Stands program machine ways (gone_on z m) t)
