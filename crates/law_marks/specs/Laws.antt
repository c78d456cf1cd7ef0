-- What laws say of instructions that are next in the machine, with a mark and without: what a run
-- begins there, and that one that moves silently goes on as its row tells, once that is done.
use Rattle.std.specs.Prelude.{◌≡◌, ◌⊎◌, ℕ, [], map, Bool, false, Option, Some, None}
use Rattle.std.specs.Option.{option_map}
use Rattle.pt_base.specs.declared.numbers.Pc.{Pc}
use Rattle.pt_heap.specs.declared.value.Value.{Value}
use Rattle.pt_ranges.specs.declared.lines.ActMark.{ActMark}
use Rattle.pt_frames.specs.Slots.{active_in}
use Rattle.pt_code.specs.View.{Ins}
use Rattle.sem_control.specs.control.Turn as T
use Rattle.sem_control.specs.control.Turn.{Turn}
use Rattle.sem_control.specs.control.Events.{before as told_before}
use Rattle.sem_code.specs.slots.Slots.{State as CodeState}
use Rattle.sem_code.specs.slots.CodeObject.{CodeObject}
use Rattle.sem_code.specs.slots.Instructions.{perform}
use Rattle.sem_code_machine.specs.code_machine.CodeBlocks.{CodeBlocks}
use Rattle.sem_run.specs.run.Machine.{Machine}
use Rattle.sem_run.specs.run.Events.{Event}
use Rattle.sem_run.specs.run.Host.{Host}
use Rattle.sem_run.specs.run.State.{State}
use Rattle.sem_run.specs.run.Outcome as O
use Rattle.sem_run.specs.run.Step.{step, happening, callee_of, leads_to}
use Rattle.pt_happenings.specs.declared.happening.Happening.{Happening}
use Rattle.pt_happenings.specs.Views.{happening_view}
use Rattle.pt_pendings.specs.declared.reply.Callee.{Callee}
use Rattle.pt_pendings.specs.declared.pending.Pending.TheVariants.{Doing}
use Rattle.pt_pendings.specs.Views.{callee_view}
use Rattle.pt_applying.specs.law_doing.pt_answering.pt_opening.pt_host.World.{Names, World, Program}
use Rattle.pt_applying.specs.law_doing.pt_answering.pt_opening.pt_host.HeapHost.{heap_host}
use Rattle.pt_applying.specs.law_doing.pt_machine_state.pt_code_facts.sem_rows.heap_rows.Views.{slots_view}
use Rattle.pt_applying.specs.law_doing.pt_machine_state.declared.blocks.BlockCode.{BlockCode}
use Rattle.pt_applying.specs.law_doing.pt_machine_state.declared.blocks.Blocks.{Blocks}
use Rattle.pt_applying.specs.law_doing.pt_machine_state.Blocks.{IsBlockOf}
use Rattle.pt_applying.specs.law_doing.pt_machine_state.Laws.{RowDone, IsRow}
use Rattle.pt_applying.specs.law_doing.pt_answering.pt_opening.pt_purposes.declared.standing.Standing.TheVariants.{AtPlace}
use Rattle.pt_applying.specs.law_doing.pt_answering.pt_opening.pt_purposes.Seen.{block_of}
use Rattle.pt_applying.specs.law_doing.pt_answering.pt_opening.pt_purposes.Openers.{Ways}
use Rattle.pt_applying.specs.law_doing.pt_answering.pt_opening.pt_run_state.declared.machine.Machine.{Machine as Held}
use Rattle.pt_applying.specs.law_doing.pt_answering.pt_opening.pt_run_state.declared.machine.Phase.TheVariants.{Turning}
use Rattle.pt_applying.specs.law_doing.pt_answering.pt_opening.pt_run_state.Stands.{Stands, IsToTell}
use Rattle.pt_applying.specs.law_doing.pt_answering.pt_opening.pt_telling.Laws.{Comes}
use Rattle.pt_applying.specs.law_doing.pt_answering.pt_opening.pt_hearing.pt_closing.pt_beginning.Acts.{listed}
use Rattle.pt_applying.specs.law_doing.pt_answering.pt_opening.pt_hearing.pt_closing.pt_beginning.Laws.{IsAct}
use Rattle.pt_applying.specs.law_doing.pt_answering.pt_replying.pt_turning.Laws.{waiting}
use Rattle.pt_applying.specs.law_doing.pt_answering.declared.answering.Asked.{Asked}
use Rattle.pt_applying.specs.law_doing.pt_answering.Answering.{answer_writes}
use Rattle.pt_applying.specs.declared.applying.Applied.{Applied}
use Rattle.pt_applying.specs.Applying.{AppliesSo}
use Rattle.pt_applying.specs.Laws.{BehindApplied}
use Rattle.pt_applying.specs.Acting.{behind_act}

module _ {S : Type 0} (program : Program) (code : CodeBlocks Value) (machine : Machine S Value)
    (embed : CodeState Value → S) (ways : Ways S) (minds : Event Value → Bool) (n : ℕ) where
  abbrev Run : Type 0
  Run = State S Names Value World

  abbrev host : Host Names Value World
  host = heap_host program

  abbrev pub object_here : Held → CodeObject Value
  object_here m = code.object (block_of m.code.here)

  -- the turn of an instruction that is next
  abbrev pub turn_here : Held → Ins → Turn (CodeState Value) Value
  turn_here m i =
      perform (object_here m) m.code.here.pc.0 i i.instr (slots_view m.code.here.slots)

  -- an instruction is next there
  pub record IsNext (m : Held) (i : Ins) (s : Run) : Type 0 where
    pub stands : Stands program machine ways m s
    pub turning : m.phase ≡ Turning AtPlace
    pub there : (object_here m).at m.code.here.pc.0 ≡ Some i

  -- this is told before an act, and if it is a call, that of what is called
  abbrev pub TellsBefore : Option Happening → Option Callee → Run → Turn (CodeState Value) Value
      → Type 0
  TellsBefore before callee s (T.act mark a next) =
      (map happening_view (listed before)
      ≡ map (happening (leads_to machine host a (λ r. embed (next r)) s) host.null
      (callee_of host a s.world)) (told_before a))
      × (callee_of host a s.world ≡ option_map callee_view callee)
  TellsBefore before callee s t = Unit {0}

  -- with a mark it is an act, or its slots lack what it takes
  abbrev pub MarkedAsRun : Type 0
  MarkedAsRun = (m : Held) (i : Ins) (s : Run) → IsNext m i s → (k : ActMark) → i.mark ≡ Some k
      → (before : Option Happening) (callee : Option Callee)
      → TellsBefore before callee s (turn_here m i)
      → (step machine host n s ≡ O.is_stuck)
      ⊎ IsAct program machine ways minds n m AtPlace k before callee s

  -- without one its slots lack what it takes; it asks, and the run comes to where it waits as an act does
  -- of which nothing more is told, without what is called; or it moves
  pub data BehindUnmarked (m : Held) (i : Ins) (s : Run) : Type 0 where
    is_stuck : step machine host n s ≡ O.is_stuck → BehindUnmarked m i s
    asks : (t : Run) → Comes program machine ways minds n s [] t
        → IsToTell program machine ways m
        (waiting AtPlace (active_in m.code.here.slots) (Doing None)) [] t → BehindUnmarked m i s
    moves : (c : CodeState Value) → turn_here m i ≡ T.move c → BehindUnmarked m i s

  abbrev pub UnmarkedAsRun : Type 0
  UnmarkedAsRun = (m : Held) (i : Ins) (s : Run) → IsNext m i s → i.mark ≡ None
      → BehindUnmarked m i s

  -- one that moves goes on as its row tells
  abbrev pub MovesAsRun : Type 0
  MovesAsRun = (m : Held) (i : Ins) (s : Run) → IsNext m i s → (c : CodeState Value)
      → turn_here m i ≡ T.move c → (next : Pc) → i.next ≡ next.0 → (done : RowDone)
      → IsRow program code i done m.code → (block : BlockCode)
      → IsBlockOf program code (block_of m.code.here) block → (d : Asked) → d.is_act ≡ false
      → (blocks : Blocks) (r : Applied) (new : Held)
      → AppliesSo blocks block next done.progress d (behind_act done m) r new
      → BehindApplied program code machine embed ways minds n s (answer_writes done.progress) r new
