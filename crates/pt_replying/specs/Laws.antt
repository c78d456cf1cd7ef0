-- What laws say of replies with a value: they go on so in each run for which the machine stands.
use Rattle.std.specs.Prelude.{◌≡◌, ℕ, List, [], Bool, Option}
use Rattle.pt_base.specs.declared.numbers.ActNo.{ActNo}
use Rattle.pt_heap.specs.declared.value.Value.{Value}
use Rattle.sem_control.specs.control.Turn.{Answer, got, raised}
use Rattle.sem_control.specs.control.Events as E
use Rattle.sem_code.specs.slots.Slots.{State as CodeState}
use Rattle.sem_code_machine.specs.code_machine.CodeBlocks.{CodeBlocks}
use Rattle.law_origins.specs.Landings.{lands_with}
use Rattle.sem_run.specs.run.Machine.{Machine}
use Rattle.sem_run.specs.run.Events.{Event}
use Rattle.sem_run.specs.run.State.{State, OpenAsk}
use Rattle.sem_run.specs.run.Step.{reply_to, of_call, stop_event}
use Rattle.pt_returning.specs.pt_host.World.{Names, World, Program}
use Rattle.pt_returning.specs.pt_host.HeapHost.{heap_host}
use Rattle.pt_returning.specs.pt_purposes.sem_rows.heap_rows.Views.{slots_view}
use Rattle.pt_happenings.specs.declared.happening.Happening.{Happening}
use Rattle.pt_pendings.specs.declared.pending.Origin.{Origin}
use Rattle.pt_pendings.specs.declared.pending.Pending.TheVariants.{Going}
use Rattle.pt_returning.specs.pt_turning.pt_telling.pt_transfers.pt_machine_state.declared.blocks.BlockCode.{BlockCode}
use Rattle.pt_returning.specs.pt_turning.pt_telling.pt_transfers.pt_machine_state.Blocks.{IsBlockOf}
use Rattle.pt_returning.specs.pt_purposes.declared.standing.Standing.{Standing}
use Rattle.pt_returning.specs.pt_purposes.Seen.{block_of}
use Rattle.pt_returning.specs.pt_purposes.Asks.{told_of_call}
use Rattle.pt_returning.specs.pt_purposes.Openers.{Ways, settled}
use Rattle.pt_returning.specs.pt_turning.pt_telling.pt_run_state.declared.machine.Machine.{Machine as Held}
use Rattle.pt_returning.specs.pt_turning.pt_telling.pt_run_state.Stands.{Stands, StandsAround, IsToTell}
use Rattle.pt_returning.specs.pt_turning.pt_telling.Laws.{Comes}
use Rattle.pt_returning.specs.pt_turning.Ways.{rows_at, state_at}
use Rattle.pt_returning.specs.pt_turning.Laws.{waiting}
use Rattle.pt_replying.specs.declared.replying.Decided.{Decided}
use Rattle.pt_replying.specs.declared.replying.Decided.TheVariants.{Branches}
use Rattle.pt_replying.specs.declared.replying.Given.{Given}
use Rattle.pt_replying.specs.Replying.{decided_events, reply_told, told_on, replied}

-- where a decision was taken, this holds of the act that comes next
abbrev pub IfBranches : Decided → (ActNo → Type 0) → Type 0
IfBranches (Branches d) P = P d
IfBranches x P = Unit {0}

-- something is told
abbrev pub IsTold : List Happening → Type 0
IsTold hs = hs ≡ [] → ⊥

module _ {S : Type 0} (program : Program) (code : CodeBlocks Value) (machine : Machine S Value)
    (ways : Ways S) (minds : Event Value → Bool) (n : ℕ) where
  abbrev Run : Type 0
  Run = State S Names Value World

  -- all of this is told, and then what waits goes on by the next turn
  abbrev pub TellsOnAsRun : Type 0
  TellsOnAsRun = (m : Held) (z : Standing) (active : Option Value) (from : Origin)
      (hs : List Happening) (s : Run)
      → IsToTell program machine ways m (waiting z active (Going from)) hs s → (block : BlockCode)
      → IsBlockOf program code (block_of m.code.here) block
      → (t : Run) × (Comes program machine ways minds n s [] t
      × Stands program machine ways
      (told_on block (waiting z active (Going from)) hs m).machine t)

module _ {S : Type 0} (program : Program) (code : CodeBlocks Value) (machine : Machine S Value)
    (embed : CodeState Value → S) (ways : Ways S) (minds : Event Value → Bool) (n : ℕ) where
  -- a reply with this value leads to where the newest activation stands in the machine; what is told
  -- of it; and where a raise lands that takes its place, if anything is
  pub record IsGiven (m : Held) (q : OpenAsk S Value) (x : Answer Value q.ask) (g : Given)
      (acts : Bool) (z : Standing) (active : Option Value) (from : Origin) (s : State S Names Value World) : Type 0 where
    pub around : StandsAround program machine ways m s
    pub active_is : machine.active s.here.state ≡ active
    pub is_act : q.is_act ≡ acts
    pub call : of_call q.ask q.callee (got x) ≡ told_of_call g.called (got x)
    pub control : E.answered q.ask x ≡ decided_events g.decided
    pub destination : IfBranches g.decided
        (λ d. machine.destination s.here.frame.block (q.next (got x)) ≡ d.0)
    pub leads : q.next (got x) ≡ embed (state_at code z m.code.here)
    pub settles : settled z ≡ z
    pub lands : IsTold (reply_told g acts) → (v : Value) → q.next (raised v)
        ≡ embed (lands_with (code.object (block_of m.code.here))
        (rows_at code m.code.here from.pc) from.below (slots_view m.code.here.slots) v)

  abbrev pub RepliesAsRun : Type 0
  RepliesAsRun = (m : Held) (q : OpenAsk S Value) (x : Answer Value q.ask) (g : Given)
      (acts : Bool) (z : Standing) (active : Option Value) (from : Origin) (s : State S Names Value World)
      → IsGiven m q x g acts z active from s → (block : BlockCode)
      → IsBlockOf program code (block_of m.code.here) block
      → (t : State S Names Value World) × (Comes program machine ways minds n
      (reply_to machine (heap_host program) q (got x) (stop_event g.stops) s) [] t
      × Stands program machine ways (replied block g acts z active from m).machine t)
