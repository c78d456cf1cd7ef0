-- What the law says of classes that are made: so they are in each run for which the machine stands.
use Rattle.std.specs.Prelude.{◌≡◌, ℕ, [], Bool, false, Option, Some}
use Rattle.pt_base.specs.declared.numbers.Pc.{Pc}
use Rattle.pt_base.specs.declared.what.What.{What}
use Rattle.pt_heap.specs.declared.value.Value.{Value}
use Rattle.pt_names.specs.Names.{bindings_of}
use Rattle.pt_code.specs.View.{Ins}
use Rattle.pt_frames.specs.Slots.{active_in}
use Rattle.pt_frames.specs.declared.activation.Activation.{Activation}
use Rattle.sem_control.specs.control.Turn.{gave}
use Rattle.sem_code.specs.slots.Slots.{State as CodeState}
use Rattle.sem_code_machine.specs.code_machine.CodeBlocks.{CodeBlocks}
use Rattle.sem_run.specs.run.Machine.{Machine}
use Rattle.sem_run.specs.run.Events.{Event}
use Rattle.sem_run.specs.run.Host.{Host, Here, BlockResult, Finding}
use Rattle.sem_run.specs.run.State.{State, OpenAsk, answering, store}
use Rattle.sem_run.specs.run.Views.{visible_line}
use Rattle.sem_run.specs.run.Outcome as O
use Rattle.sem_run.specs.run.Step.{step}
use Rattle.pt_giving.specs.pt_host.Classes.{own_names}
use Rattle.pt_giving.specs.pt_host.HeapHost.{heap_host}
use Rattle.pt_giving.specs.pt_host.Trees.{Tree}
use Rattle.pt_giving.specs.pt_host.World.{Names, World, CodeFacts, Program}
use Rattle.pt_frames.specs.declared.purpose.Purpose.TheVariants.{Class}
use Rattle.pt_giving.specs.pt_turning.pt_telling.pt_transfers.pt_machine_state.declared.blocks.BlockCode.{BlockCode}
use Rattle.pt_giving.specs.pt_turning.pt_telling.pt_transfers.pt_machine_state.Blocks.{IsBlockOf}
use Rattle.pt_giving.specs.pt_purposes.declared.purpose.Called.{Called}
use Rattle.pt_giving.specs.pt_purposes.Seen.{block_of}
use Rattle.pt_giving.specs.pt_purposes.Openers.{Ways, origin_in, IsWaiting, LeadsOn}
use Rattle.pt_giving.specs.pt_turning.pt_telling.pt_run_state.declared.machine.Machine.{Machine as Held}
use Rattle.pt_giving.specs.pt_turning.pt_telling.pt_run_state.Stands.{Stands, StandsAround}
use Rattle.pt_giving.specs.pt_turning.pt_telling.Laws.{Comes}
use Rattle.pt_giving.specs.pt_failing.declared.failing.Failed.{Failed}
use Rattle.pt_giving.specs.pt_failing.declared.failing.Failed.TheVariants.{Goes, Leaves}
use Rattle.pt_making.specs.Making.{MakesSo}

-- what a class is made of
pub record Body : Type 0 where
  pub closed : Activation
  pub block : BlockCode
  pub base : Value
  pub cell : Option ℕ

module _ {S : Type 0} (program : Program) (code : CodeBlocks Value) (machine : Machine S Value)
    (embed : CodeState Value → S) (ways : Ways S) (minds : Event Value → Bool) (n : ℕ) where
  abbrev Run : Type 0
  Run = State S Names Value World

  abbrev host : Host Names Value World
  host = heap_host program

  -- an ask has waited in the newest activation for a class, of whose body this is known. The body has
  -- come to its end with these names, and those of them that it doesn't share with its comprehensions
  -- are the names of its activation
  pub record IsMaking (m : Held) (q : OpenAsk S Value) (u : Tree (Finding Value q.ask)) (i : Ins)
      (next : Pc) (x : Body) (called : Option Called) (acts : Bool) (here : Here Value)
      (facts : CodeFacts) (r : BlockResult Names Value) (s : Run) : Type 0 where
    pub around : StandsAround program machine ways m s
    pub active_is : machine.active s.here.state ≡ active_in m.code.here.slots
    pub phase : s.phase ≡ answering q u
    pub waits : IsWaiting ways m.code.here (Class x.base x.cell) called acts q
    pub leads : LeadsOn ways m.code.here q here facts (Class x.base x.cell) r (store s) u
    pub value : Value
    pub ended : r.end ≡ gave value
    pub name : x.block.name ≡ facts.name
    pub own : bindings_of (own_names facts.locals r.names.values) ≡ bindings_of x.closed.names
    pub there : (code.object (block_of m.code.here)).at m.code.here.pc.0 ≡ Some i
    pub next_is : i.next ≡ next.0
    pub decides : ways.decides m.code.here (origin_in m.code.here) ≡ false

  -- the run goes on, or leaves the profile, at the line that is visible
  pub data BehindClass (s : Run) : Failed → Held → Type 0 where
    goes_on : (event : Bool) (m : Held) (t : Run) → Comes program machine ways minds n s [] t
        → Stands program machine ways m t → BehindClass s (Goes event) m
    leaves : (what : What) (m : Held)
        → step machine host n s ≡ O.ends (O.outside what (visible_line host.first_line s))
        → BehindClass s (Leaves what) m

  abbrev pub MakesAsRun : Type 0
  MakesAsRun = (m : Held) (q : OpenAsk S Value) (u : Tree (Finding Value q.ask)) (i : Ins)
      (next : Pc) (x : Body) (called : Option Called) (acts : Bool) (here : Here Value)
      (facts : CodeFacts) (r : BlockResult Names Value) (s : Run)
      → IsMaking m q u i next x called acts here facts r s → (block : BlockCode)
      → IsBlockOf program code (block_of m.code.here) block → (f : Failed) (new : Held)
      → MakesSo block next x.closed x.block x.base x.cell called acts here.active m f new
      → BehindClass s f new
