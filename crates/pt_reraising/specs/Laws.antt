-- What the law says of `raise` alone: so it does in each run for which the machine stands.
use Rattle.std.specs.Prelude.{◌≡◌, ℕ, [], ◌∷◌, Bool, Option, Some}
use Rattle.pt_heap.specs.declared.value.Value.{Value}
use Rattle.pt_code.specs.View.{Ins}
use Rattle.sem_control.specs.control.Turn as T
use Rattle.sem_control.specs.control.Turn.{raised, Answer}
use Rattle.sem_control.specs.control.Events as E
use Rattle.sem_code.specs.slots.Slots.{raise, Slots, State as CodeState}
use Rattle.sem_code.specs.slots.Landing.{land}
use Rattle.sem_code_machine.specs.code_machine.CodeBlocks.{CodeBlocks}
use Rattle.law_leads.specs.Leads.{Leads}
use Rattle.sem_run.specs.run.Machine.{Machine}
use Rattle.sem_run.specs.run.Events.{Event}
use Rattle.sem_run.specs.run.State.{State, OpenAsk, with_store}
use Rattle.sem_run.specs.run.Views.{here_of}
use Rattle.sem_run.specs.run.Step.{of_call}
use Rattle.sem_steps.specs.Steps.{minded}
use Rattle.pt_failing.specs.pt_arising.pt_replying.pt_turning.sem_rows.pt_host.World.{Names, World, Program}
use Rattle.pt_failing.specs.pt_arising.pt_replying.pt_turning.sem_rows.pt_host.HeapHost.{heap_host}
use Rattle.pt_failing.specs.pt_arising.pt_replying.pt_turning.sem_rows.heap_rows.Views.{slots_view}
use Rattle.pt_failing.specs.pt_arising.pt_replying.pt_turning.sem_rows.heap_rows.Told.{told}
use Rattle.pt_failing.specs.pt_arising.pt_replying.pt_turning.sem_rows.declared.heap_rows.progress.Progress.TheVariants.{RaisesAgain}
use Rattle.pt_failing.specs.pt_arising.pt_replying.pt_turning.pt_telling.pt_transfers.pt_machine_state.declared.blocks.BlockCode.{BlockCode}
use Rattle.pt_failing.specs.pt_arising.pt_replying.pt_turning.pt_telling.pt_transfers.pt_machine_state.Blocks.{IsBlockOf}
use Rattle.pt_failing.specs.pt_arising.pt_replying.pt_turning.pt_telling.pt_transfers.pt_machine_state.Views.{stores_of}
use Rattle.pt_failing.specs.pt_arising.pt_replying.pt_turning.pt_telling.pt_run_state.pt_purposes.Seen.{block_of}
use Rattle.pt_failing.specs.pt_arising.pt_replying.pt_turning.pt_telling.pt_run_state.pt_purposes.Openers.{Ways}
use Rattle.pt_failing.specs.pt_arising.pt_replying.pt_turning.pt_telling.pt_run_state.declared.machine.Machine.{Machine as Held}
use Rattle.pt_failing.specs.pt_arising.pt_replying.pt_turning.pt_telling.pt_run_state.Stands.{StandsAround}
use Rattle.pt_failing.specs.declared.failing.Failed.{Failed}
use Rattle.pt_failing.specs.Laws.{BehindFailure}
use Rattle.pt_reraising.specs.Raising.{RaisesSo}

-- what is told of its reply, which is never a value: that the active exception goes on, if one is
-- active, and else that one arises
pub record TellsAgain (q : OpenAsk (CodeState Value) Value) (acts : Bool) : Type 0 where
  pub is_act : q.is_act ≡ acts
  pub call : (v : Value) → of_call {A = Answer Value q.ask} q.ask q.callee (raised v) ≡ []
  pub control : (active : Option Value) (v : Value) → E.after active q.ask (raised v)
      ≡ E.arisen active (T.throw T.raising_again) v ∷ []

module _ {S : Type 0} (program : Program) (code : CodeBlocks Value) (machine : Machine S Value)
    (embed : CodeState Value → S) (ways : Ways S) (minds : Event Value → Bool) (n : ℕ)
    (ends : Option Value → Bool) where
  abbrev Run : Type 0
  Run = State S Names Value World

  -- `raise` alone is answered in the newest activation, whose slots and stores are those of the
  -- machine; a raise in place of its reply lands by those below what it took
  pub record IsRaising (m : Held) (q : OpenAsk (CodeState Value) Value) (i : Ins) (acts : Bool)
      (active : Option Value) (s : Run) : Type 0 where
    pub around : StandsAround program machine ways m (with_store (stores_of program m.code) s)
    pub active_is : machine.active s.here.state ≡ active
    pub tells : TellsAgain q acts
    pub there : (code.object (block_of m.code.here)).at m.code.here.pc.0 ≡ Some i
    pub below : Slots Value
    pub raises : (v : Value) → q.next (raised v)
        ≡ land (code.object (block_of m.code.here)) i.rows (raise v) below
    pub leads : Leads machine (heap_host program) (minded minds) n ends embed q
        (told program (code.object (block_of m.code.here)) i (here_of machine s) RaisesAgain
        (slots_view m.code.here.slots) (stores_of program m.code)) s

  abbrev pub RaisesAgainAsRun : Type 0
  RaisesAgainAsRun = (m : Held) (q : OpenAsk (CodeState Value) Value) (i : Ins) (acts : Bool)
      (active : Option Value) (s : Run) → IsRaising m q i acts active s → (block : BlockCode)
      → IsBlockOf program code (block_of m.code.here) block → (r : Failed) (new : Held)
      → RaisesSo block acts active m r new
      → BehindFailure program code machine embed ways minds n ends s r new
