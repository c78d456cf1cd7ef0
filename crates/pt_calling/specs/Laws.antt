-- What the law says of calls of blocks: so they do in each run for which the machine stands.
use Rattle.std.specs.Prelude.{◌≡◌, ℕ, [], Bool, true, Option, Some}
use Rattle.pt_base.specs.declared.numbers.BlockId.{BlockId}
use Rattle.pt_base.specs.declared.what.What.{What}
use Rattle.pt_heap.specs.declared.value.Value.{Value}
use Rattle.pt_bind.specs.declared.arguments.Locals.{Locals}
use Rattle.pt_code.specs.View.{Ins}
use Rattle.pt_frames.specs.Slots.{active_in}
use Rattle.pt_frames.specs.declared.purpose.Purpose.{Purpose as For}
use Rattle.sem_code.specs.slots.Slots.{State as CodeState}
use Rattle.sem_code_machine.specs.code_machine.CodeBlocks.{CodeBlocks}
use Rattle.law_leads.specs.Leads.{Leads, in_run}
use Rattle.sem_run.specs.run.Machine.{Machine}
use Rattle.sem_run.specs.run.Events.{Event}
use Rattle.sem_run.specs.run.Host.{Host}
use Rattle.sem_run.specs.run.State.{State, OpenAsk, with_store}
use Rattle.sem_run.specs.run.Views.{here_of, visible_line}
use Rattle.sem_run.specs.run.Outcome as O
use Rattle.sem_run.specs.run.Step.{step}
use Rattle.sem_steps.specs.Steps.{minded}
use Rattle.pt_reraising.specs.pt_opening.pt_host.World.{Names, World, Program}
use Rattle.pt_reraising.specs.pt_opening.pt_host.HeapHost.{heap_host}
use Rattle.pt_reraising.specs.pt_machine_state.pt_code_facts.sem_rows.heap_rows.Views.{slots_view}
use Rattle.pt_reraising.specs.pt_machine_state.pt_code_facts.sem_rows.heap_rows.Told.{told}
use Rattle.pt_reraising.specs.pt_machine_state.pt_code_facts.sem_rows.declared.heap_rows.progress.Progress.TheVariants.{Calls}
use Rattle.pt_reraising.specs.pt_machine_state.declared.blocks.BlockCode.{BlockCode}
use Rattle.pt_reraising.specs.pt_machine_state.declared.blocks.Blocks.{Blocks}
use Rattle.pt_reraising.specs.pt_machine_state.Blocks.{IsBlockOf, AreBlocksOf}
use Rattle.pt_reraising.specs.pt_machine_state.Views.{stores_of}
use Rattle.pt_reraising.specs.pt_opening.pt_purposes.Seen.{block_of}
use Rattle.pt_reraising.specs.pt_opening.pt_purposes.Asks.{TellsSo}
use Rattle.pt_reraising.specs.pt_opening.pt_purposes.Openers.{Ways, origin_in}
use Rattle.pt_reraising.specs.pt_opening.pt_run_state.declared.machine.Machine.{Machine as Held}
use Rattle.pt_reraising.specs.pt_opening.pt_run_state.Stands.{Stands, StandsAround}
use Rattle.pt_reraising.specs.pt_opening.pt_telling.Laws.{Comes}
use Rattle.pt_reraising.specs.pt_failing.declared.failing.Failed.{Failed}
use Rattle.pt_reraising.specs.pt_failing.declared.failing.Failed.TheVariants.{Goes, Leaves, Further}
use Rattle.pt_reraising.specs.pt_failing.declared.failing.Failing.{Failing}
use Rattle.pt_reraising.specs.pt_machine_state.pt_code_facts.sem_rows.declared.heap_rows.progress.Progress.{Progress}
use Rattle.pt_calling.specs.Calling.{is_item, CallsSo}

module _ {S : Type 0} (program : Program) (code : CodeBlocks Value) (machine : Machine S Value)
    (embed : CodeState Value → S) (ways : Ways S) (minds : Event Value → Bool) (n : ℕ)
    (ends : Option Value → Bool) where
  abbrev Run : Type 0
  Run = State S Names Value World

  abbrev host : Host Names Value World
  host = heap_host program

  -- an ask is answered in the newest activation as the row of its instruction tells, which calls this
  -- block; its slots and stores are those of the machine
  pub record IsCalling (m : Held) (q : OpenAsk (CodeState Value) Value) (i : Ins) (b : BlockId)
      (hidden : Bool) (ls : Locals) (why : For) (f : Failing) (s : Run) : Type 0 where
    pub around : StandsAround program machine ways m (with_store (stores_of program m.code) s)
    pub active_is : machine.active s.here.state ≡ f.active
    pub keeps_active : active_in m.code.here.slots ≡ f.active
    pub tells : TellsSo (in_run embed q) f.called f.is_act
        (ways.decides m.code.here (origin_in m.code.here))
    pub there : (code.object (block_of m.code.here)).at m.code.here.pc.0 ≡ Some i
    pub leads : Leads machine host (minded minds) n ends embed q
        (told program (code.object (block_of m.code.here)) i (here_of machine s)
        (Calls b hidden ls why) (slots_view m.code.here.slots) (stores_of program m.code)) s

  -- the run goes on; it comes to where it leaves the profile, at the line that is visible; or nothing
  -- is done where one activation too many was to give the next item of an iterator
  pub data BehindCall (why : For) (s : Run) : Failed → Held → Type 0 where
    goes_on : (event : Bool) (m : Held) (t : Run) → Comes program machine ways minds n s [] t
        → Stands program machine ways m t → BehindCall why s (Goes event) m
    leaves : (what : What) (m : Held) (t : Run) → Comes program machine ways minds n s [] t
        → step machine host n t ≡ O.ends (O.outside what (visible_line host.first_line t))
        → BehindCall why s (Leaves what) m
    further : (p : Progress) (m : Held) → is_item why ≡ true → BehindCall why s (Further p) m

  abbrev pub CallsAsRun : Type 0
  CallsAsRun = (m : Held) (q : OpenAsk (CodeState Value) Value) (i : Ins) (b : BlockId)
      (hidden : Bool) (ls : Locals) (why : For) (f : Failing) (s : Run)
      → IsCalling m q i b hidden ls why f s → (blocks : Blocks) → AreBlocksOf program code blocks
      → (block : BlockCode) → IsBlockOf program code (block_of m.code.here) block → (r : Failed)
      (new : Held) → CallsSo blocks block b hidden ls why f m r new → BehindCall why s r new
