-- What the law says of turns in which no instruction is done: they are steps of each run for which the
-- machine stands, as a turn is to be one, or come to what is left of it.
use Rattle.std.specs.Prelude.{◌≡◌, ℕ, List, [], Bool, None}
use Rattle.pt_heap.specs.declared.value.Value.{Value}
use Rattle.sem_code_machine.specs.code_machine.CodeBlocks.{CodeBlocks}
use Rattle.sem_run.specs.run.Machine.{Machine}
use Rattle.sem_run.specs.run.Events.{Event}
use Rattle.sem_run.specs.run.State.{State}
use Rattle.sem_steps.specs.Steps.{minded}
use Rattle.pt_closing.specs.pt_host.World.{Names, World, Program}
use Rattle.pt_closing.specs.pt_host.HeapHost.{heap_host}
use Rattle.pt_happenings.specs.Views.{event_view}
use Rattle.pt_pendings.specs.declared.pending.Pending.{Pending}
use Rattle.pt_pendings.specs.declared.pending.Pending.TheVariants.{Starting, Going, Ending}
use Rattle.pt_closing.specs.pt_beginning.pt_machine_state.declared.blocks.Blocks.{Blocks}
use Rattle.pt_closing.specs.pt_beginning.pt_machine_state.declared.writes.Writes.{Writes}
use Rattle.pt_closing.specs.pt_beginning.pt_machine_state.Blocks.{AreBlocksOf}
use Rattle.pt_closing.specs.pt_purposes.declared.standing.Standing.{Standing}
use Rattle.pt_closing.specs.pt_purposes.declared.standing.Standing.TheVariants.{Reraises, Returns, Raises}
use Rattle.pt_closing.specs.pt_purposes.declared.opener.Opener.{Opener}
use Rattle.pt_closing.specs.pt_purposes.Seen.{block_of}
use Rattle.pt_closing.specs.pt_purposes.Openers.{Ways}
use Rattle.pt_closing.specs.pt_beginning.pt_run_state.declared.machine.Machine.{Machine as Held}
use Rattle.pt_closing.specs.pt_beginning.pt_run_state.declared.machine.Phase.{Phase}
use Rattle.pt_closing.specs.pt_beginning.pt_run_state.declared.machine.Phase.TheVariants.{Turning, Telling as Tells}
use Rattle.pt_closing.specs.pt_beginning.pt_run_state.declared.machine.Waiting.{Waiting}
use Rattle.pt_closing.specs.pt_beginning.pt_run_state.declared.machine.Turn.{Turn}
use Rattle.pt_closing.specs.pt_beginning.pt_run_state.Stands.{Stands, IsToTell}
use Rattle.pt_closing.specs.pt_beginning.pt_run_state.Advances.{Comes, Behind, Advances}
use Rattle.pt_advancing.specs.declared.onward.Advanced.{Advanced}
use Rattle.pt_advancing.specs.declared.onward.Advanced.TheVariants.{Turned, AtInstruction, Onward}
use Rattle.pt_advancing.specs.Advancing.{AdvancesSo}

-- what a turn leaves, once nothing more is told: an ask, and the result of a block for which another
-- activation waits
abbrev pub IsLeft : List Opener → Pending → Type 0
IsLeft os Starting = ⊥
IsLeft os (Going from) = ⊥
IsLeft os (Ending e) = os ≡ [] → ⊥
IsLeft os p = Unit {0}

module _ {S : Type 0} (program : Program) (code : CodeBlocks Value) (machine : Machine S Value)
    (ways : Ways S) (minds : Event Value → Bool) (n : ℕ) where
  abbrev Run : Type 0
  Run = State S Names Value World

  -- a debugger minds the event that is told, if one is
  abbrev pub MindsSo : Phase → Bool → Type 0
  MindsSo (Turning z) debugs = Unit {0}
  MindsSo (Tells z active t) debugs = debugs ≡ minds (event_view t.event)

  -- where an instruction is next, or none is there from which a raise goes on
  abbrev pub IsAtInstruction : Held → Standing → Type 0
  IsAtInstruction m (Returns v) = ⊥
  IsAtInstruction m (Raises v) = ⊥
  IsAtInstruction m (Reraises v) =
      (code.object (block_of m.code.here)).at m.code.here.pc.0 ≡ None
  IsAtInstruction m z = Unit {0}

  -- behind a turn that is done, or before what it leaves
  pub data BehindSo (m : Held) (t : Run) : Advanced → Type 0 where
    turned : (turn : Turn) → Behind program machine (heap_host program) ways (minded minds) n m t turn
        → BehindSo m t (Turned turn)
    at_instruction : (z : Standing) → Stands program machine ways m t → m.phase ≡ Turning z
        → IsAtInstruction m z → BehindSo m t (AtInstruction z)
    onward : (w : Waiting) → IsToTell program machine ways m w [] t → IsLeft m.openers w.pending
        → BehindSo m t (Onward w)

  abbrev pub AdvancesAsRun : Type 0
  AdvancesAsRun = (m : Held) (s : Run) → Stands program machine ways m s → (blocks : Blocks)
      → AreBlocksOf program code blocks → (debugs : Bool) → MindsSo m.phase debugs
      → (a : Advanced) (written : Writes) (new : Held) (writes : Writes)
      → AdvancesSo blocks debugs m a written new writes
      → (t : Run) × (Comes program machine (heap_host program) ways (minded minds) n s written
      writes t × BehindSo new t a)

  -- so one that is done is as a turn is to be
  abbrev pub TurnsAdvance : Type 0
  TurnsAdvance = (m : Held) (blocks : Blocks) → AreBlocksOf program code blocks → (debugs : Bool)
      → MindsSo m.phase debugs → (turn : Turn) (written : Writes) (new : Held) (writes : Writes)
      → AdvancesSo blocks debugs m (Turned turn) written new writes
      → Advances program machine (heap_host program) ways (minded minds) n turn m written new
      writes
