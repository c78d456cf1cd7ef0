-- What the law says of acts that wait: in a run their asks are those of instructions, which lead to
-- where the rows of these say.
use Rattle.std.specs.Prelude.{◌≡◌, ℕ, [], Bool, Option, Some, is_some}
use Rattle.std.specs.Option.{option_map}
use Rattle.pt_heap.specs.declared.value.Value.{Value}
use Rattle.pt_code.specs.View.{Ins}
use Rattle.sem_control.specs.control.Turn as T
use Rattle.sem_control.specs.control.Turn.{Mark}
use Rattle.sem_code.specs.slots.Slots.{Slots, State as CodeState}
use Rattle.sem_code.specs.slots.CodeObject.{CodeObject}
use Rattle.sem_code.specs.slots.Instructions.{perform}
use Rattle.sem_code_machine.specs.code_machine.CodeBlocks.{CodeBlocks}
use Rattle.sem_code_machine.specs.rows.Rows.{row_of}
use Rattle.law_leads.specs.Leads.{Leads}
use Rattle.law_takes.specs.Taking.{taken}
use Rattle.law_takes.specs.Laws.{Takes}
use Rattle.sem_run.specs.run.Machine.{Machine}
use Rattle.sem_run.specs.run.Events.{Event}
use Rattle.sem_run.specs.run.Host.{Host, Here}
use Rattle.sem_run.specs.run.State as run
use Rattle.sem_run.specs.run.State.{State, OpenAsk, at, store}
use Rattle.sem_run.specs.run.Views.{here_of}
use Rattle.sem_run.specs.transitions.Successors.{Successor}
use Rattle.sem_steps.specs.Steps.{minded}
use Rattle.pt_making.specs.pt_host.World.{Names, World, Stores, Program}
use Rattle.pt_making.specs.pt_host.HeapHost.{heap_host}
use Rattle.pt_making.specs.pt_purposes.sem_rows.heap_rows.Views.{slots_view}
use Rattle.pt_pendings.specs.declared.reply.Callee.{Callee}
use Rattle.pt_pendings.specs.declared.pending.Pending.TheVariants.{Doing}
use Rattle.pt_pendings.specs.Views.{callee_view}
use Rattle.pt_making.specs.pt_purposes.declared.standing.Standing.TheVariants.{AtPlace}
use Rattle.pt_making.specs.pt_purposes.Seen.{block_of}
use Rattle.pt_making.specs.pt_purposes.Openers.{Ways}
use Rattle.pt_making.specs.pt_turning.pt_telling.pt_run_state.declared.machine.Machine.{Machine as Held}
use Rattle.pt_making.specs.pt_turning.pt_telling.pt_run_state.Stands.{IsToTell}
use Rattle.pt_making.specs.pt_turning.pt_telling.Laws.{Comes}
use Rattle.pt_making.specs.pt_turning.Laws.{waiting}

module _ {S : Type 0} (program : Program) (code : CodeBlocks Value) (machine : Machine S Value)
    (embed : CodeState Value → S) (ways : Ways S) (minds : Event Value → Bool) (n : ℕ)
    (ends : Option Value → Bool) where
  abbrev Run : Type 0
  Run = State S Names Value World

  abbrev host : Host Names Value World
  host = heap_host program

  abbrev pub object_here : Held → CodeObject Value
  object_here m = code.object (block_of m.code.here)

  -- an instruction's ask in the newest activation, which takes slots as the instruction does, and of
  -- which this is told if it is a call; and from there a run leads to where the instruction's row does
  pub record IsDone (m : Held) (i : Ins) (callee : Option Callee) (h : Here Value) (st : Stores)
      (t : Run) : Type 0 where
    pub ask : OpenAsk (CodeState Value) Value
    pub mark : Option Mark
    pub turn : perform (object_here m) m.code.here.pc.0 i i.instr (slots_view m.code.here.slots)
        ≡ T.act mark ask.ask ask.next
    pub takes : Takes (object_here m) i (taken (object_here m).pool i.instr)
        (slots_view m.code.here.slots) ask.ask ask.next
    pub is_act : ask.is_act ≡ is_some mark
    pub called : ask.callee ≡ option_map callee_view callee
    pub leads : (l : Successor (CodeState Value) Names Value World)
        → l ≡ row_of host (object_here m) m.code.here.pc.0 i i.instr
        (slots_view m.code.here.slots) h st
        → Leads machine host (minded minds) n ends embed ask l t

  -- the phase alone is another one then
  abbrev pub ActsAsRun : Type 0
  ActsAsRun = (m : Held) (active : Option Value) (callee : Option Callee) (s : Run)
      → IsToTell program machine ways m (waiting AtPlace active (Doing callee)) [] s → (i : Ins)
      → (object_here m).at m.code.here.pc.0 ≡ Some i
      → (p : run.Phase S Names Value World)
      × (Comes program machine ways minds n s [] (at p s)
      × IsDone m i callee (here_of machine s) (store s) (at p s))
