-- What the law says of acts that begin: so they do in each run for which the machine stands.
use Rattle.std.specs.Prelude.{◌≡◌, ℕ, nat_lt, List, [], map, Bool, true, false, Option, Some}
use Rattle.std.specs.Option.{option_map}
use Rattle.pt_heap.specs.declared.value.Value.{Value}
use Rattle.pt_ranges.specs.declared.lines.ActMark.{ActMark}
use Rattle.pt_frames.specs.declared.activation.Activation.{Activation}
use Rattle.sem_control.specs.control.Turn as T
use Rattle.sem_control.specs.control.Turn.{Ask, Answer, Reply, raised}
use Rattle.sem_control.specs.control.Events.{before as told_before}
use Rattle.sem_code.specs.slots.Steps.{mark_of}
use Rattle.sem_run.specs.run.Machine.{Machine}
use Rattle.sem_run.specs.run.Events.{Event}
use Rattle.sem_run.specs.run.Host.{Host}
use Rattle.sem_run.specs.run.State.{State}
use Rattle.sem_run.specs.run.Outcome as O
use Rattle.sem_run.specs.run.Step.{step, happening, callee_of, leads_to}
use Rattle.pt_turning.specs.pt_telling.pt_run_state.pt_purposes.sem_rows.pt_host.World.{Names, World, Program}
use Rattle.pt_turning.specs.pt_telling.pt_run_state.pt_purposes.sem_rows.pt_host.HeapHost.{heap_host}
use Rattle.pt_happenings.specs.declared.happening.Happening.{Happening}
use Rattle.pt_happenings.specs.Views.{happening_view}
use Rattle.pt_pendings.specs.declared.reply.Callee.{Callee}
use Rattle.pt_pendings.specs.Views.{callee_view}
use Rattle.pt_turning.specs.pt_telling.pt_transfers.pt_machine_state.declared.blocks.BlockCode.{BlockCode}
use Rattle.pt_turning.specs.pt_telling.pt_run_state.pt_purposes.declared.standing.Standing.{Standing}
use Rattle.pt_turning.specs.pt_telling.pt_run_state.pt_purposes.Seen.{block_of}
use Rattle.pt_turning.specs.pt_telling.pt_run_state.pt_purposes.Openers.{Ways}
use Rattle.pt_turning.specs.pt_telling.pt_run_state.declared.machine.Machine.{Machine as Held}
use Rattle.pt_turning.specs.pt_telling.pt_run_state.declared.machine.Phase.TheVariants.{Turning}
use Rattle.pt_turning.specs.pt_telling.pt_run_state.Stands.{Stands}
use Rattle.pt_turning.specs.pt_telling.Laws.{IsNamed, Comes, BehindTold}
use Rattle.pt_beginning.specs.Acts.{act_taken, listed, doing, act_begun}

-- two activations stand in one place of a block with the same slots, whatever their names and lines
-- are
pub record IsInPlaceOf (a b : Activation) : Type 0 where
  pub block : a.block ≡ b.block
  pub hidden : a.hidden ≡ b.hidden
  pub pc : a.pc ≡ b.pc
  pub slots : a.slots ≡ b.slots

module _ {S : Type 0} (program : Program) (machine : Machine S Value) (ways : Ways S)
    (minds : Event Value → Bool) (n : ℕ) where
  abbrev Run : Type 0
  Run = State S Names Value World

  abbrev host : Host Names Value World
  host = heap_host program

  -- where code stands is told by place and slots
  abbrev pub StandByPlace : Type 0
  StandByPlace = (z : Standing) (a b : Activation) → IsInPlaceOf a b
      → ways.position z a ≡ ways.position z b

  -- the machine's turn, where it stands so, is an act with this mark, of which this is told before it
  pub record IsAct (m : Held) (z : Standing) (k : ActMark) (before : Option Happening)
      (callee : Option Callee) (s : Run) : Type 0 where
    pub stands : Stands program machine ways m s
    pub turning : m.phase ≡ Turning z
    pub ask : Ask Value
    pub next : Reply Value (Answer Value ask) → S
    pub turn : machine.turn s.here.frame.block s.here.state ≡ T.act (Some (mark_of k)) ask next
    pub before_it : map happening_view (listed before)
        ≡ map (happening (leads_to machine host ask next s) host.null (callee_of host ask s.world))
        (told_before ask)
    pub called : callee_of host ask s.world ≡ option_map callee_view callee
    pub raises : (v : Value) → next (raised v)
        ≡ ways.lands (act_taken k m).code.here (ways.asked (act_taken k m).code.here) v

  -- where a unit is left the act begins
  abbrev pub BeginsAsRun : Type 0
  BeginsAsRun = (m : Held) (z : Standing) (k : ActMark) (before : Option Happening)
      (callee : Option Callee) (s : Run) → IsAct m z k before callee s
      → nat_lt m.code.units n ≡ true → (block : BlockCode)
      → IsNamed program (block_of m.code.here) block
      → (t : Run) × (Comes program machine ways minds n s [] t
      × BehindTold program machine ways minds n (doing z callee m) t
      (act_begun block k z before callee m))

  -- and else the run ends
  abbrev pub EndsWithoutUnits : Type 0
  EndsWithoutUnits = (m : Held) (z : Standing) (k : ActMark) (before : Option Happening)
      (callee : Option Callee) (s : Run) → IsAct m z k before callee s
      → nat_lt m.code.units n ≡ false → step machine host n s ≡ O.ends O.spent
