-- What the law says of results that are given: so they are in each run for which the machine stands.
use Rattle.std.specs.Prelude.{◌≡◌, ℕ, [], Bool, false, Option, Some}
use Rattle.pt_base.specs.declared.numbers.Pc.{Pc}
use Rattle.pt_heap.specs.declared.value.Value.{Value}
use Rattle.pt_code.specs.View.{Ins}
use Rattle.pt_frames.specs.Slots.{active_in}
use Rattle.pt_frames.specs.declared.purpose.Purpose.{Purpose as For}
use Rattle.sem_code.specs.slots.Slots.{State as CodeState}
use Rattle.sem_code_machine.specs.code_machine.CodeBlocks.{CodeBlocks}
use Rattle.sem_run.specs.run.Machine.{Machine}
use Rattle.sem_run.specs.run.Events.{Event}
use Rattle.sem_run.specs.run.Host.{Here, BlockResult, Finding}
use Rattle.sem_run.specs.run.State.{State, OpenAsk, answering, store}
use Rattle.pt_calling.specs.pt_arising.pt_opening.pt_host.World.{Names, World, CodeFacts, Program}
use Rattle.pt_calling.specs.pt_arising.pt_opening.pt_host.Trees.{Tree}
use Rattle.pt_pendings.specs.declared.reply.End.{End}
use Rattle.pt_pendings.specs.Views.{end_view}
use Rattle.pt_calling.specs.pt_machine_state.declared.blocks.BlockCode.{BlockCode}
use Rattle.pt_calling.specs.pt_machine_state.Blocks.{IsBlockOf}
use Rattle.pt_calling.specs.pt_arising.pt_opening.pt_purposes.declared.purpose.Called.{Called}
use Rattle.pt_calling.specs.pt_arising.pt_opening.pt_purposes.Seen.{block_of}
use Rattle.pt_calling.specs.pt_arising.pt_opening.pt_purposes.Openers.{Ways, origin_in, IsWaiting, LeadsOn}
use Rattle.pt_calling.specs.pt_arising.pt_opening.pt_run_state.declared.machine.Machine.{Machine as Held}
use Rattle.pt_calling.specs.pt_arising.pt_opening.pt_run_state.Stands.{Stands, StandsAround}
use Rattle.pt_calling.specs.pt_arising.pt_opening.pt_telling.Laws.{Comes}
use Rattle.pt_giving.specs.declared.giving.Received.TheVariants.{Goes, Further}
use Rattle.pt_giving.specs.Giving.{ReceivedSo, received}

module _ {S : Type 0} (program : Program) (code : CodeBlocks Value) (machine : Machine S Value)
    (embed : CodeState Value → S) (ways : Ways S) (minds : Event Value → Bool) (n : ℕ) where
  abbrev Run : Type 0
  Run = State S Names Value World

  -- an ask has waited in the newest activation for the result of a block, of which this is known, for
  -- this, as was asked here. It decides nothing
  pub record IsReceiving (m : Held) (q : OpenAsk S Value) (u : Tree (Finding Value q.ask)) (i : Ins)
      (next : Pc) (e : End) (why : For) (called : Option Called) (acts : Bool)
      (here : Here Value) (facts : CodeFacts) (r : BlockResult Names Value) (s : Run) : Type 0 where
    pub around : StandsAround program machine ways m s
    pub active_is : machine.active s.here.state ≡ active_in m.code.here.slots
    pub phase : s.phase ≡ answering q u
    pub waits : IsWaiting ways m.code.here why called acts q
    pub leads : LeadsOn ways m.code.here q here facts why r (store s) u
    pub ended : r.end ≡ end_view e
    pub there : (code.object (block_of m.code.here)).at m.code.here.pc.0 ≡ Some i
    pub next_is : i.next ≡ next.0
    pub decides : ways.decides m.code.here (origin_in m.code.here) ≡ false

  -- the run goes on, or it is as it was, where something else is to be done
  pub data BehindResult (s : Run) : ReceivedSo → Type 0 where
    goes_on : (event : Bool) (m : Held) (t : Run) → Comes program machine ways minds n s [] t
        → Stands program machine ways m t
        → BehindResult s (record { received = Goes event; machine = m })
    further : (m : Held) → BehindResult s (record { received = Further; machine = m })

  abbrev pub GivesAsRun : Type 0
  GivesAsRun = (m : Held) (q : OpenAsk S Value) (u : Tree (Finding Value q.ask)) (i : Ins)
      (next : Pc) (e : End) (why : For) (called : Option Called) (acts : Bool)
      (here : Here Value) (facts : CodeFacts) (r : BlockResult Names Value) (s : Run)
      → IsReceiving m q u i next e why called acts here facts r s → (block : BlockCode)
      → IsBlockOf program code (block_of m.code.here) block
      → BehindResult s (received block next e why called acts m)
