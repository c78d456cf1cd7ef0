-- What the law says of results that are used: so they are in each run for which the machine stands.
use Rattle.std.specs.Prelude.{◌≡◌, ℕ, Bool, true, false, Option, Some}
use Rattle.pt_base.specs.declared.numbers.ActNo.{ActNo}
use Rattle.pt_base.specs.declared.numbers.Pc.{Pc}
use Rattle.pt_heap.specs.declared.value.Value.{Value}
use Rattle.pt_code.specs.View.{Ins}
use Rattle.pt_frames.specs.Slots.{active_in}
use Rattle.pt_frames.specs.declared.purpose.Purpose.{Purpose as For}
use Rattle.sem_control.specs.control.Turn.{gave}
use Rattle.sem_code.specs.slots.Slots.{State as CodeState}
use Rattle.sem_code_machine.specs.code_machine.CodeBlocks.{CodeBlocks}
use Rattle.sem_run.specs.run.Machine.{Machine}
use Rattle.sem_run.specs.run.Events.{Event}
use Rattle.sem_run.specs.run.Host.{Here, BlockResult, Finding}
use Rattle.sem_run.specs.run.State.{State, OpenAsk, answering, store}
use Rattle.pt_giving.specs.pt_host.World.{Names, World, CodeFacts, Program}
use Rattle.pt_giving.specs.pt_host.Trees.{Tree}
use Rattle.pt_giving.specs.pt_calling.pt_machine_state.declared.blocks.BlockCode.{BlockCode}
use Rattle.pt_giving.specs.pt_calling.pt_machine_state.Blocks.{IsBlockOf}
use Rattle.pt_giving.specs.pt_purposes.declared.purpose.Called.{Called}
use Rattle.pt_giving.specs.pt_purposes.declared.standing.Standing.TheVariants.{AtPlace}
use Rattle.pt_giving.specs.pt_purposes.Seen.{block_of}
use Rattle.pt_giving.specs.pt_purposes.Openers.{Ways, origin_in, IsWaiting, LeadsOn}
use Rattle.pt_giving.specs.pt_calling.pt_arising.pt_opening.pt_run_state.declared.machine.Machine.{Machine as Held}
use Rattle.pt_giving.specs.pt_calling.pt_arising.pt_opening.pt_run_state.Stands.{StandsAround}
use Rattle.pt_giving.specs.pt_turning.Ways.{state_at}
use Rattle.pt_giving.specs.pt_calling.pt_arising.pt_replying.declared.replying.Decided.{Decided}
use Rattle.pt_giving.specs.pt_calling.pt_arising.pt_replying.declared.replying.Decided.TheVariants.{Nothing, Branches}
use Rattle.pt_giving.specs.pt_calling.pt_arising.pt_replying.Laws.{IfBranches}
use Rattle.pt_giving.specs.Laws.{BehindResult}
use Rattle.pt_resuming.specs.Resuming.{Place, placed_for, laid, resumed_by}

-- where the ask decides this act comes next
abbrev pub DecidesSo : (decides : Bool) → Decided → Type 0
DecidesSo true d = (k : ActNo) × (d ≡ Branches k)
DecidesSo false d = d ≡ Nothing

module _ {S : Type 0} (program : Program) (code : CodeBlocks Value) (machine : Machine S Value)
    (embed : CodeState Value → S) (ways : Ways S) (minds : Event Value → Bool) (n : ℕ) where
  abbrev Run : Type 0
  Run = State S Names Value World

  -- an ask has waited in the newest activation for what a block gave, of which this is known, for this,
  -- as was asked here; of what it decides the act is known that comes next
  pub record IsResuming (m : Held) (q : OpenAsk S Value) (u : Tree (Finding Value q.ask)) (i : Ins)
      (next : Pc) (v : Value) (why : For) (called : Option Called) (acts : Bool) (d : Decided)
      (here : Here Value) (facts : CodeFacts) (r : BlockResult Names Value) (s : Run) : Type 0 where
    pub around : StandsAround program machine ways m s
    pub active_is : machine.active s.here.state ≡ active_in m.code.here.slots
    pub phase : s.phase ≡ answering q u
    pub waits : IsWaiting ways m.code.here why called acts q
    pub leads : LeadsOn ways m.code.here q here facts why r (store s) u
    pub ended : r.end ≡ gave v
    pub there : (code.object (block_of m.code.here)).at m.code.here.pc.0 ≡ Some i
    pub next_is : i.next ≡ next.0
    pub decides : DecidesSo (ways.decides m.code.here (origin_in m.code.here)) d
    pub destination : (p : Place) → placed_for why next v ≡ Some p → IfBranches d
        (λ k. machine.destination s.here.frame.block (embed (state_at code AtPlace (laid p m).code.here))
        ≡ k.0)

  abbrev pub ResumesAsRun : Type 0
  ResumesAsRun = (m : Held) (q : OpenAsk S Value) (u : Tree (Finding Value q.ask)) (i : Ins)
      (next : Pc) (v : Value) (why : For) (called : Option Called) (acts : Bool) (d : Decided)
      (here : Here Value) (facts : CodeFacts) (r : BlockResult Names Value) (s : Run)
      → IsResuming m q u i next v why called acts d here facts r s → (block : BlockCode)
      → IsBlockOf program code (block_of m.code.here) block
      → BehindResult program code machine embed ways minds n s
      (resumed_by block next v why called acts d m)
