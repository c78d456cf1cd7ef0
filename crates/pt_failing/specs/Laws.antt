-- What the law says of instructions that fail: so they do in each run for which the machine stands.
use Rattle.std.specs.Prelude.{◌≡◌, ℕ, [], Bool, Option, Some}
use Rattle.pt_base.specs.declared.what.What.{What}
use Rattle.pt_heap.specs.declared.value.Value.{Value}
use Rattle.pt_code.specs.View.{Ins}
use Rattle.sem_control.specs.control.Turn.{raised}
use Rattle.sem_code.specs.slots.Slots.{raise, Slots, State as CodeState}
use Rattle.sem_code.specs.slots.Landing.{land}
use Rattle.sem_code_machine.specs.code_machine.CodeBlocks.{CodeBlocks}
use Rattle.law_leads.specs.Leads.{Leads, in_run}
use Rattle.sem_run.specs.run.Machine.{Machine}
use Rattle.sem_run.specs.run.Events.{Event}
use Rattle.sem_run.specs.run.Host.{Host}
use Rattle.sem_run.specs.run.State.{State, OpenAsk, with_store}
use Rattle.sem_run.specs.run.Views.{active, here_of, visible_line}
use Rattle.sem_run.specs.run.Outcome as O
use Rattle.sem_run.specs.run.Step.{step}
use Rattle.sem_steps.specs.Steps.{minded}
use Rattle.pt_answering.specs.pt_replying.pt_turning.sem_rows.pt_host.World.{Names, World, Program}
use Rattle.pt_answering.specs.pt_replying.pt_turning.sem_rows.pt_host.HeapHost.{heap_host}
use Rattle.pt_answering.specs.pt_replying.pt_turning.sem_rows.heap_rows.Views.{slots_view}
use Rattle.pt_answering.specs.pt_replying.pt_turning.sem_rows.heap_rows.Told.{told}
use Rattle.pt_answering.specs.pt_replying.pt_turning.sem_rows.declared.heap_rows.progress.Progress.{Progress}
use Rattle.pt_answering.specs.pt_replying.pt_turning.pt_telling.pt_transfers.pt_machine_state.declared.blocks.BlockCode.{BlockCode}
use Rattle.pt_answering.specs.pt_replying.pt_turning.pt_telling.pt_transfers.pt_machine_state.Blocks.{IsBlockOf}
use Rattle.pt_answering.specs.pt_replying.pt_turning.pt_telling.pt_transfers.pt_machine_state.Views.{stores_of}
use Rattle.pt_answering.specs.pt_replying.pt_turning.pt_telling.pt_run_state.pt_purposes.Seen.{block_of}
use Rattle.pt_answering.specs.pt_replying.pt_turning.pt_telling.pt_run_state.pt_purposes.Openers.{Ways}
use Rattle.pt_answering.specs.pt_replying.pt_turning.pt_telling.pt_run_state.declared.machine.Machine.{Machine as Held}
use Rattle.pt_answering.specs.pt_replying.pt_turning.pt_telling.pt_run_state.Stands.{Stands, StandsAround}
use Rattle.pt_answering.specs.pt_replying.pt_turning.pt_telling.Laws.{Comes}
use Rattle.pt_failing.specs.declared.failing.Failed.{Failed}
use Rattle.pt_failing.specs.declared.failing.Failed.TheVariants.{Goes, Leaves, Further}
use Rattle.pt_failing.specs.declared.failing.Failing.{Failing}
use Rattle.pt_answering.specs.pt_arising.Laws.{TellsRaise}
use Rattle.pt_failing.specs.Failing.{FailsSo}

module _ {S : Type 0} (program : Program) (code : CodeBlocks Value) (machine : Machine S Value)
    (embed : CodeState Value → S) (ways : Ways S) (minds : Event Value → Bool) (n : ℕ)
    (ends : Option Value → Bool) where
  abbrev Run : Type 0
  Run = State S Names Value World

  abbrev host : Host Names Value World
  host = heap_host program

  -- an ask is answered in the newest activation as the row of its instruction tells, whose slots and
  -- stores are those of the machine; a raise in place of its reply lands by those below what it took
  pub record IsFailing (m : Held) (q : OpenAsk (CodeState Value) Value) (i : Ins) (p : Progress)
      (f : Failing) (s : Run) : Type 0 where
    pub around : StandsAround program machine ways m (with_store (stores_of program m.code) s)
    pub active_is : machine.active s.here.state ≡ f.active
    pub tells : TellsRaise (in_run embed q) f.called f.is_act (active machine s)
    pub there : (code.object (block_of m.code.here)).at m.code.here.pc.0 ≡ Some i
    pub below : Slots Value
    pub raises : (v : Value) → q.next (raised v)
        ≡ land (code.object (block_of m.code.here)) i.rows (raise v) below
    pub leads : Leads machine host (minded minds) n ends embed q
        (told program (code.object (block_of m.code.here)) i (here_of machine s) p
        (slots_view m.code.here.slots) (stores_of program m.code)) s

  -- the run goes on; it leaves the profile, at the line that is visible; or it is as it was, where
  -- something is left to be done
  pub data BehindFailure (s : Run) : Failed → Held → Type 0 where
    goes_on : (event : Bool) (m : Held) (t : Run) → Comes program machine ways minds n s [] t
        → Stands program machine ways m t → BehindFailure s (Goes event) m
    leaves : (what : What) (m : Held)
        → step machine host n s ≡ O.ends (O.outside what (visible_line host.first_line s))
        → BehindFailure s (Leaves what) m
    further : (p : Progress) (m : Held) → BehindFailure s (Further p) m

  abbrev pub FailsAsRun : Type 0
  FailsAsRun = (m : Held) (q : OpenAsk (CodeState Value) Value) (i : Ins) (p : Progress)
      (f : Failing) (s : Run) → IsFailing m q i p f s → (block : BlockCode)
      → IsBlockOf program code (block_of m.code.here) block → (r : Failed) (new : Held)
      → FailsSo block p f m r new → BehindFailure s r new
