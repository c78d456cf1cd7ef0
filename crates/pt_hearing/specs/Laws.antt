-- What laws say of raises of hooks: they do the same to each run for which the machine stands.
use Rattle.std.specs.Prelude.{◌≡◌, ℕ, [], Bool, Option, Some}
use Rattle.pt_heap.specs.declared.value.Value.{Value}
use Rattle.pt_code.specs.View.{Ins}
use Rattle.sem_code_machine.specs.code_machine.CodeBlocks.{CodeBlocks}
use Rattle.sem_control.specs.control.Turn as T
use Rattle.sem_run.specs.run.Machine.{Machine}
use Rattle.sem_run.specs.run.Events.{Event}
use Rattle.sem_run.specs.run.State as run
use Rattle.sem_run.specs.run.State.{State, Hearing, closing}
use Rattle.sem_run.specs.run.Hooks as hooks
use Rattle.pt_closing.specs.pt_host.World.{Names, World, Program}
use Rattle.pt_closing.specs.pt_host.HeapHost.{heap_host}
use Rattle.pt_pendings.specs.declared.pending.Origin.{Origin}
use Rattle.pt_pendings.specs.declared.pending.Pending.{Pending}
use Rattle.pt_pendings.specs.declared.pending.Instead.TheVariants.{Lands}
use Rattle.pt_pendings.specs.Pendings.{instead_of}
use Rattle.pt_pendings.specs.Stands.{IsPending}
use Rattle.pt_closing.specs.pt_asking.declared.asked.Hook.{Hook}
use Rattle.pt_closing.specs.pt_asking.Asking.{hook_view}
use Rattle.pt_closing.specs.pt_turning.pt_telling.pt_transfers.pt_machine_state.declared.blocks.BlockCode.{BlockCode}
use Rattle.pt_closing.specs.pt_turning.pt_telling.pt_transfers.pt_machine_state.Blocks.{IsBlockOf}
use Rattle.pt_closing.specs.pt_purposes.declared.standing.Standing.{Standing}
use Rattle.pt_closing.specs.pt_purposes.Seen.{block_of}
use Rattle.pt_closing.specs.pt_purposes.Openers.{Ways, UnlessGone, standpoint}
use Rattle.pt_closing.specs.pt_turning.pt_telling.pt_run_state.declared.machine.Machine.{Machine as Held}
use Rattle.pt_closing.specs.pt_turning.pt_telling.pt_run_state.declared.machine.Waiting.{Waiting}
use Rattle.pt_closing.specs.pt_turning.pt_telling.pt_run_state.Stands.{Stands, StandsAround, IsToTell}
use Rattle.pt_closing.specs.pt_turning.pt_telling.Laws.{Comes}
use Rattle.pt_closing.specs.pt_turning.Laws.{waiting}
use Rattle.pt_hearing.specs.declared.raising.Raised.TheVariants as raised
use Rattle.pt_hearing.specs.Raising.{RaisedSo, in_place, hook_raised}

module _ {S : Type 0} (program : Program) (code : CodeBlocks Value) (machine : Machine S Value)
    (ways : Ways S) (minds : Event Value → Bool) (n : ℕ) where
  abbrev Run : Type 0
  Run = State S Names Value World

  -- the run goes on by the next turn, an event is told, something goes on, or the block closes
  pub data BehindRaise (t : Run) : RaisedSo → Type 0 where
    goes : (m : Held) → Stands program machine ways m t
        → BehindRaise t (record { raised = raised.Goes; machine = m })
    event : (m : Held) → Stands program machine ways m t
        → BehindRaise t (record { raised = raised.Event; machine = m })
    onward : (m : Held) (w : Waiting) → IsToTell program machine ways m w [] t
        → BehindRaise t (record { raised = raised.Onward w; machine = m })
    closes : (m : Held) (v : Value) → StandsAround program machine ways m t
        → t.phase ≡ closing (T.left_by v)
        → BehindRaise t (record { raised = raised.Closes v; machine = m })

  -- what waits in the newest activation, whatever its phase
  pub record Waits (m : Held) (z : Standing) (active : Option Value) (p : Pending)
      (q : run.Pending S Value) (s : Run) : Type 0 where
    pub around : StandsAround program machine ways m s
    pub active_is : machine.active s.here.state ≡ active
    pub pending : IsPending machine
        (standpoint ways s.here.state z m.code.here) p q
    pub stands : UnlessGone p z (s.here.state ≡ ways.position z m.code.here)

  -- where a raise comes from stands an instruction
  abbrev pub HasOrigin : Held → Pending → Origin → Type 0
  HasOrigin m p asked =
      (from : Origin) → instead_of p asked ≡ Lands from
      → (i : Ins) × ((code.object (block_of m.code.here)).at from.pc.0 ≡ Some i)

  -- a hook's raise takes the place of what waits
  abbrev pub RaisesAsRun : Type 0
  RaisesAsRun = (m : Held) (z : Standing) (active : Option Value) (p : Pending)
      (q : run.Pending S Value) (s : Run) → Waits m z active p q s → (v : Value)
      (asked : Origin) → ways.asked m.code.here ≡ asked → HasOrigin m p asked
      → (block : BlockCode) → IsBlockOf program code (block_of m.code.here) block
      → (t : Run)
      × (Comes program machine ways minds n
      (hooks.instead_of machine (heap_host program) q v s) [] t
      × BehindRaise t (in_place block v (instead_of p asked) (waiting z active p) m))

  -- a hook that was asked raises
  abbrev pub HookRaisesAsRun : Type 0
  HookRaisesAsRun = (m : Held) (z : Standing) (active : Option Value) (p : Pending)
      (x : Hearing S Value) (s : Run) → Waits m z active p x.telling.pending s → (v : Value)
      (hook : Hook) → x.hook ≡ hook_view hook
      → (asked : Origin) → ways.asked m.code.here ≡ asked → HasOrigin m p asked
      → (block : BlockCode) → IsBlockOf program code (block_of m.code.here) block
      → (t : Run)
      × (Comes program machine ways minds n
      (hooks.raise_of_hook machine (heap_host program) x v s) [] t
      × BehindRaise t (hook_raised block v hook asked (waiting z active p) m))
