-- When the turns of a machine are those of code objects, whatever else its states have, as where a
-- jump has landed; and what code tells of an activation that stands in it.
use Rattle.std.specs.Prelude.{◌≡◌, List, [], ◌∷◌, Bool, Option, Some, None}
use Rattle.pt_base.specs.declared.numbers.Pc.{Pc}
use Rattle.pt_heap.specs.declared.value.Value.{Value}
use Rattle.pt_heap.specs.declared.value.Value.TheVariants as value
use Rattle.pt_ranges.specs.declared.handlers.Handler.{Handler}
use Rattle.pt_code.specs.View.{Ins}
use Rattle.pt_frames.specs.declared.activation.Activation.{Activation}
use Rattle.pt_frames.specs.declared.purpose.Purpose.{Purpose as For}
use Rattle.pt_frames.specs.declared.purpose.Purpose.TheVariants.{Item}
use Rattle.sem_control.specs.control.Turn.{gave, left_by}
use Rattle.sem_code.specs.slots.Slots.{State, on, thrown_to, reraises, off}
use Rattle.sem_code.specs.slots.Steps.{with_item}
use Rattle.sem_code.specs.slots.Machine as slots
use Rattle.sem_code.specs.comp_expr.Law.{active_at as active_in_state}
use Rattle.law_origins.specs.Landings.{lands_with}
use Rattle.sem_code_machine.specs.code_machine.CodeBlocks.{CodeBlocks, start_of, machine as code_machine}
use Rattle.sem_run.specs.run.Machine.{Machine, BlockId, turn_in}
use Rattle.sem_run.specs.run.Host.{Here, BlockResult}
use Rattle.sem_run.specs.transitions.Successors.{to, none}
use Rattle.pt_telling.specs.pt_run_state.pt_purposes.sem_rows.pt_host.World.{Names, Stores, CodeFacts, Program}
use Rattle.pt_telling.specs.pt_run_state.pt_purposes.sem_rows.pt_host.Errors.{raise_error}
use Rattle.pt_telling.specs.pt_run_state.pt_purposes.sem_rows.pt_host.declared.places.TheConstants.{STOP_ITERATION}
use Rattle.pt_telling.specs.pt_run_state.pt_purposes.sem_rows.heap_rows.Leads.{HeapSuccessor, by_tree, giving}
use Rattle.pt_telling.specs.pt_run_state.pt_purposes.sem_rows.heap_rows.Told.{resumed}
use Rattle.pt_telling.specs.pt_run_state.pt_purposes.sem_rows.heap_rows.Views.{slots_view}
use Rattle.pt_pendings.specs.declared.pending.Origin.{Origin}
use Rattle.pt_telling.specs.pt_run_state.pt_purposes.declared.standing.Standing.{Standing}
use Rattle.pt_telling.specs.pt_run_state.pt_purposes.declared.standing.Standing.TheVariants as standing
use Rattle.pt_telling.specs.pt_run_state.pt_purposes.Seen.{block_of, active_at}
use Rattle.pt_telling.specs.pt_run_state.pt_purposes.Openers.{Ways, settled}
use Rattle.pt_telling.specs.pt_run_state.pt_purposes.Asks.{led_in}

-- what a StopIteration tells: the value with which a generator has ended, unless that is None
abbrev pub stop_arguments : Value → List Value
stop_arguments value.None = []
stop_arguments v = v ∷ []

-- the rows that cover an instruction
abbrev pub rows_of : Option Ins → List Handler
rows_of (Some i) = i.rows
rows_of None = []

module _ (code : CodeBlocks Value) where
  abbrev pub rows_at : Activation → Pc → List Handler
  rows_at a pc = rows_of ((code.object (block_of a)).at pc.0)

  -- where a jump has landed the instruction at the place is next too
  abbrev pub state_at : Standing → Activation → State Value
  state_at standing.AtPlace a = on a.pc.0 (slots_view a.slots)
  state_at standing.Landed a = on a.pc.0 (slots_view a.slots)
  state_at (standing.ThrownTo v) a = thrown_to a.pc.0 v (slots_view a.slots)
  state_at (standing.Reraises v) a = reraises v (rows_at a a.pc) (slots_view a.slots)
  state_at (standing.Returns v) a = off (gave v)
  state_at (standing.Raises v) a = off (left_by v)

  -- where the result of a block leads that was called for this, behind the instruction at the place
  abbrev pub resumed_by : Option Ins → Program → Activation → CodeFacts → For
      → BlockResult Names Value → Here Value → Stores → HeapSuccessor
  resumed_by (Some i) program a facts why r h st =
      resumed program (code.object (block_of a)) i facts why (slots_view a.slots) r h st
  resumed_by None program a facts why r h st = none

  -- and where a generator's end with this value does: a StopIteration arises, or where the next item
  -- is asked for an iterator is at its end (Language Reference 6.2.9.1)
  abbrev pub ended_by : Option Ins → Activation → For → Value → Here Value → Stores → HeapSuccessor
  ended_by (Some i) a (Item iterator end) v h st =
      to (with_item (code.object (block_of a)) i end.0 iterator (slots_view a.slots) None) st
  ended_by (Some i) a why v h st =
      by_tree (code.object (block_of a)) i
      (giving (code.object (block_of a)) i (slots_view a.slots)) (slots_view a.slots)
      (raise_error STOP_ITERATION (stop_arguments v) h st)
  ended_by None a why v h st = none

  abbrev pub instruction_at : Activation → Option Ins
  instruction_at a = (code.object (block_of a)).at a.pc.0

  -- so are the turns of a machine in which states of code stand for these, and where activations
  -- stand in it
  pub record IsOfCode {S : Type 0} (machine : Machine S Value) (embed : State Value → S)
      (ways : Ways S) : Type 0 where
    pub start : (b : BlockId) (i : Option Value) → machine.start b i ≡ embed (start_of code b i)
    pub turn : (b : BlockId) (c : State Value)
        → machine.turn b (embed c) ≡ turn_in embed (slots.turn (code.object b) c)
    pub stands : (s : Standing) (a : Activation)
        → ways.position (settled s) a ≡ embed (state_at (settled s) a)
    pub active : (s : Standing) (a : Activation)
        → machine.active (ways.position s a) ≡ active_at s a.slots
    pub lands : (a : Activation) (from : Origin) (v : Value) → ways.lands a from v
        ≡ embed (lands_with (code.object (block_of a)) (rows_at a from.pc) from.below
        (slots_view a.slots) v)
    pub resumes : (program : Program) (a : Activation) (facts : CodeFacts) (why : For)
        (r : BlockResult Names Value) (h : Here Value) (st : Stores)
        → ways.resumed a facts why r h st
        ≡ led_in embed (resumed_by (instruction_at a) program a facts why r h st)
    pub ends : (a : Activation) (why : For) (v : Value) (h : Here Value) (st : Stores)
        → ways.ended a why v h st ≡ led_in embed (ended_by (instruction_at a) a why v h st)

  -- the machine of code itself, where a jump that has landed is at its place, with what else its
  -- code tells
  abbrev pub code_ways : Program → (asked : Activation → Origin)
      (decides : Activation → Origin → Bool) → Ways (State Value)
  code_ways program asked decides = record {
    position = state_at;
    asked = asked;
    lands = λ a from v. lands_with (code.object (block_of a)) (rows_at a from.pc) from.below
        (slots_view a.slots) v;
    decides = decides;
    resumed = λ a facts why r h st.
        led_in (λ c. c) (resumed_by (instruction_at a) program a facts why r h st);
    ended = λ a why v h st. led_in (λ c. c) (ended_by (instruction_at a) a why v h st);
  }

  abbrev pub IsOfItself : Type 0
  IsOfItself = (program : Program) (asked : Activation → Origin)
      (decides : Activation → Origin → Bool)
      → IsOfCode (code_machine code) (λ c. c) (code_ways program asked decides)
