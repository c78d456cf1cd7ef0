-- What the law says of exceptions that arise: so they do in each run for which the machine stands.
use Rattle.std.specs.Prelude.{◌≡◌, ℕ, [], ◌∷◌, Bool, Option, Some}
use Rattle.pt_heap.specs.declared.value.Value.{Value}
use Rattle.pt_code.specs.View.{Ins}
use Rattle.sem_control.specs.control.Turn.{raised, Answer}
use Rattle.sem_control.specs.control.Events as E
use Rattle.sem_code.specs.slots.Slots.{raise, State as CodeState}
use Rattle.sem_code.specs.slots.Landing.{land}
use Rattle.sem_code_machine.specs.code_machine.CodeBlocks.{CodeBlocks}
use Rattle.sem_run.specs.run.Machine.{Machine}
use Rattle.sem_run.specs.run.Events.{Event}
use Rattle.sem_run.specs.run.State.{State, OpenAsk}
use Rattle.sem_run.specs.run.Views as views
use Rattle.sem_run.specs.run.Step.{reply_to, of_call}
use Rattle.pt_replying.specs.pt_turning.sem_rows.pt_host.World.{Names, World, Program}
use Rattle.pt_replying.specs.pt_turning.sem_rows.pt_host.HeapHost.{heap_host}
use Rattle.pt_replying.specs.pt_turning.sem_rows.heap_rows.Views.{slots_view}
use Rattle.pt_replying.specs.pt_turning.pt_telling.pt_transfers.pt_machine_state.declared.blocks.BlockCode.{BlockCode}
use Rattle.pt_replying.specs.pt_turning.pt_telling.pt_transfers.pt_machine_state.Blocks.{IsBlockOf}
use Rattle.pt_replying.specs.pt_turning.pt_telling.pt_run_state.pt_purposes.declared.purpose.Called.{Called}
use Rattle.pt_replying.specs.pt_turning.pt_telling.pt_run_state.pt_purposes.Seen.{block_of}
use Rattle.pt_replying.specs.pt_turning.pt_telling.pt_run_state.pt_purposes.Asks.{told_of_call}
use Rattle.pt_replying.specs.pt_turning.pt_telling.pt_run_state.pt_purposes.Openers.{Ways}
use Rattle.pt_replying.specs.pt_turning.pt_telling.pt_run_state.declared.machine.Machine.{Machine as Held}
use Rattle.pt_replying.specs.pt_turning.pt_telling.pt_run_state.Stands.{Stands, StandsAround}
use Rattle.pt_replying.specs.pt_turning.pt_telling.Laws.{Comes}
use Rattle.pt_replying.specs.pt_turning.Ways.{rows_at}
use Rattle.pt_arising.specs.Arising.{arisen}

-- what is told of an exception in the place of a reply, where this one is active in the run
pub record TellsRaise {S : Type 0} (q : OpenAsk S Value) (called : Option Called) (acts : Bool)
    (active : Option Value) : Type 0 where
  pub is_act : q.is_act ≡ acts
  pub call : (v : Value) → of_call {A = Answer Value q.ask} q.ask q.callee (raised v)
      ≡ told_of_call {A = Answer Value q.ask} called (raised v)
  pub control : (v : Value) → E.after active q.ask (raised v) ≡ E.raises v ∷ []

module _ {S : Type 0} (program : Program) (code : CodeBlocks Value) (machine : Machine S Value)
    (embed : CodeState Value → S) (ways : Ways S) (minds : Event Value → Bool) (n : ℕ) where
  abbrev Run : Type 0
  Run = State S Names Value World

  -- an ask is to be replied to in the newest activation, whose slots are those below what it took:
  -- what is told of its reply, and that raises land from there
  pub record IsReplied (m : Held) (q : OpenAsk S Value) (called : Option Called) (acts : Bool)
      (active : Option Value) (s : Run) : Type 0 where
    pub around : StandsAround program machine ways m s
    pub active_is : machine.active s.here.state ≡ active
    pub told : TellsRaise q called acts (views.active machine s)
    pub lands : (v : Value) → q.next (raised v)
        ≡ embed (land (code.object (block_of m.code.here))
        (rows_at code m.code.here m.code.here.pc) (raise v) (slots_view m.code.here.slots))

  -- an exception arises in place of the reply
  abbrev pub ArisesAsRun : Type 0
  ArisesAsRun = (m : Held) (q : OpenAsk S Value) (called : Option Called) (acts : Bool)
      (active : Option Value) (s : Run) → IsReplied m q called acts active s → (i : Ins)
      → (code.object (block_of m.code.here)).at m.code.here.pc.0 ≡ Some i → (v : Value)
      (block : BlockCode) → IsBlockOf program code (block_of m.code.here) block
      → (t : Run)
      × (Comes program machine ways minds n
      (reply_to machine (heap_host program) q (raised v) [] s) [] t
      × Stands program machine ways (arisen block v called acts active m).machine t)
