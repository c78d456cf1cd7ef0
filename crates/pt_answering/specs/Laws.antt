-- What the law says of answers: they go on so in each run for which the machine stands.
use Rattle.std.specs.Prelude.{◌≡◌, ℕ, List, Bool, true, false, Option, Some, None}
use Rattle.pt_base.specs.declared.numbers.Pc.{Pc}
use Rattle.pt_heap.specs.declared.value.Value.{Value}
use Rattle.pt_code.specs.View.{Ins}
use Rattle.sem_control.specs.control.Turn.{Answer, got, raised}
use Rattle.sem_control.specs.control.Events as E
use Rattle.sem_code.specs.slots.Slots.{State as CodeState}
use Rattle.sem_code_machine.specs.code_machine.CodeBlocks.{CodeBlocks}
use Rattle.law_origins.specs.Landings.{lands_with}
use Rattle.law_leads.specs.Leads.{Leads}
use Rattle.sem_run.specs.run.Machine.{Machine}
use Rattle.sem_run.specs.run.Events.{Event}
use Rattle.sem_run.specs.run.Host.{Here}
use Rattle.sem_run.specs.run.State.{State, OpenAsk, with_store}
use Rattle.sem_run.specs.run.Run.{Write}
use Rattle.sem_run.specs.run.Step.{of_call}
use Rattle.sem_steps.specs.Steps.{minded}
use Rattle.pt_arising.specs.pt_replying.pt_turning.sem_rows.pt_host.World.{Names, World, Program}
use Rattle.pt_arising.specs.pt_replying.pt_turning.sem_rows.pt_host.HeapHost.{heap_host}
use Rattle.pt_arising.specs.pt_replying.pt_turning.sem_rows.heap_rows.Views.{slots_view}
use Rattle.pt_arising.specs.pt_replying.pt_turning.sem_rows.heap_rows.Told.{told}
use Rattle.pt_arising.specs.pt_replying.pt_turning.sem_rows.declared.heap_rows.progress.Progress.{Progress}
use Rattle.pt_arising.specs.pt_replying.pt_turning.sem_rows.declared.heap_rows.progress.Progress.TheVariants as progress
use Rattle.pt_arising.specs.pt_replying.pt_turning.pt_telling.pt_transfers.pt_machine_state.declared.blocks.BlockCode.{BlockCode}
use Rattle.pt_arising.specs.pt_replying.pt_turning.pt_telling.pt_transfers.pt_machine_state.Blocks.{IsBlockOf}
use Rattle.pt_arising.specs.pt_replying.pt_turning.pt_telling.pt_transfers.pt_machine_state.Views.{stores_of}
use Rattle.pt_arising.specs.pt_replying.pt_turning.pt_telling.pt_run_state.pt_purposes.declared.standing.Standing.{Standing}
use Rattle.pt_arising.specs.pt_replying.pt_turning.pt_telling.pt_run_state.pt_purposes.Seen.{block_of}
use Rattle.pt_arising.specs.pt_replying.pt_turning.pt_telling.pt_run_state.pt_purposes.Asks.{told_of_call}
use Rattle.pt_arising.specs.pt_replying.pt_turning.pt_telling.pt_run_state.pt_purposes.Openers.{Ways}
use Rattle.pt_arising.specs.pt_replying.pt_turning.pt_telling.pt_run_state.declared.machine.Machine.{Machine as Held}
use Rattle.pt_arising.specs.pt_replying.pt_turning.pt_telling.pt_run_state.Stands.{Stands, StandsAround}
use Rattle.pt_arising.specs.pt_replying.pt_turning.pt_telling.Laws.{Comes}
use Rattle.pt_arising.specs.pt_replying.pt_turning.Ways.{rows_at, state_at}
use Rattle.pt_arising.specs.pt_replying.Replying.{decided_events, reply_told}
use Rattle.pt_arising.specs.pt_replying.Laws.{IfBranches, IsTold}
use Rattle.pt_answering.specs.declared.answering.Asked.{Asked}
use Rattle.pt_answering.specs.declared.answering.Answered.TheVariants.{Goes, Further}
use Rattle.pt_answering.specs.Answering.{AnsweredSo, given_of, moved, stands_by, answered, answer_writes}

-- an iterator is at its end by itself
abbrev pub by_itself : Option Value → Bool
by_itself (Some e) = false
by_itself None = true

-- a value is the reply
abbrev pub IfGiven : Progress → Type 0 → Type 0
IfGiven progress.Next A = A
IfGiven (progress.Goto pc) A = A
IfGiven (progress.Leaves how) A = A
IfGiven (progress.Reraises e) A = A
IfGiven (progress.Print t) A = A
IfGiven p A = Unit {0}

module _ {S : Type 0} (program : Program) (code : CodeBlocks Value) (machine : Machine S Value)
    (embed : CodeState Value → S) (ways : Ways S) (minds : Event Value → Bool) (n : ℕ) where
  abbrev Run : Type 0
  Run = State S Names Value World

  -- what is known of an ask is what is told of each reply with a value that leads to where the newest
  -- activation stands; and from its origin lands a raise, if something is told
  pub record TellsOf (m : Held) (z : Standing) (q : OpenAsk (CodeState Value) Value) (d : Asked)
      (s : Run) : Type 0 where
    pub call : (x : Answer Value q.ask) → q.next (got x) ≡ state_at code z m.code.here
        → of_call q.ask q.callee (got x) ≡ told_of_call d.called (got x)
    pub control : (x : Answer Value q.ask) → q.next (got x) ≡ state_at code z m.code.here
        → E.answered q.ask x ≡ decided_events d.decided
    pub destination : IfBranches d.decided
        (λ k. machine.destination s.here.frame.block (embed (state_at code z m.code.here)) ≡ k.0)
    pub lands : IsTold (reply_told (given_of d) d.is_act) → (x : Answer Value q.ask)
        → q.next (got x) ≡ state_at code z m.code.here → (v : Value)
        → q.next (raised v) ≡ lands_with (code.object (block_of m.code.here))
        (rows_at code m.code.here d.from.pc) d.from.below (slots_view m.code.here.slots) v

  -- an ask is answered in the newest activation as the row of its instruction tells, whose slots and
  -- stores are those of the machine
  pub record IsAnswered (m : Held) (q : OpenAsk (CodeState Value) Value) (i : Ins) (next : Pc)
      (p : Progress) (d : Asked) (h : Here Value) (block : BlockCode) (s : Run) : Type 0 where
    pub around : StandsAround program machine ways m (with_store (stores_of program m.code) s)
    pub active_is : machine.active s.here.state ≡ d.active
    pub is_act : q.is_act ≡ d.is_act
    pub there : (code.object (block_of m.code.here)).at m.code.here.pc.0 ≡ Some i
    pub next_is : i.next ≡ next.0
    pub leads : Leads machine (heap_host program) (minded minds) n by_itself embed q
        (told program (code.object (block_of m.code.here)) i h p (slots_view m.code.here.slots)
        (stores_of program m.code)) s
    pub tells : IfGiven p (TellsOf (moved block next p m) (stands_by block next p m) q d s)

  -- the run goes on, and this is written; or it is as it was, where something is left to be done
  pub data BehindAnswer (s : Run) (ws : List Write) : AnsweredSo → Type 0 where
    goes_on : (event : Bool) (m : Held) (t : Run) → Comes program machine ways minds n s ws t
        → Stands program machine ways m t
        → BehindAnswer s ws (record { answer = Goes event; machine = m })
    further : (p : Progress) (m : Held)
        → BehindAnswer s ws (record { answer = Further p; machine = m })

  abbrev pub AnswersAsRun : Type 0
  AnswersAsRun = (m : Held) (q : OpenAsk (CodeState Value) Value) (i : Ins) (next : Pc)
      (p : Progress) (d : Asked) (h : Here Value) (block : BlockCode) (s : Run)
      → IsAnswered m q i next p d h block s → IsBlockOf program code (block_of m.code.here) block
      → BehindAnswer s (answer_writes p) (answered block next p d m)
