-- The machine of code as a run sees it (Language Reference 4.1, 3.2.13.2).
use Rattle.std.specs.Prelude.{◌≡◌, ◌⊎◌, ◌≤◌, ℕ, List, [], ◌∷◌, length, true, false, Option, None, Some}
use Rattle.std.specs.Option.{option_map, option_or}
use Rattle.pt_heap.specs.declared.value.Value.{Value}
use Rattle.pt_code.specs.View.{Ins}
use Rattle.sem_control.specs.control.Turn.{Ask, gave, left_by}
use Rattle.sem_control.specs.control.Bases.{or_else}
use Rattle.sem_control.specs.control.Events as E
use Rattle.pt_names.specs.Names.{Named}
use Rattle.pt_frames.specs.declared.activation.Activation.{Activation}
use Rattle.pt_frames.specs.declared.activations.OpenActivation.{OpenActivation}
use Rattle.pt_frames.specs.declared.purpose.Purpose.{Purpose}
use Rattle.pt_frames.specs.Activations.{active_exception}
use Rattle.pt_frames.specs.Slots.{active_in}
use Rattle.sem_code.specs.slots.Slots as S
use Rattle.sem_code.specs.slots.Slots.{State, on, off}
use Rattle.sem_code.specs.slots.CodeObject.{CodeObject}
use Rattle.sem_code.specs.comp_expr.Law.{active_at}
use Rattle.sem_run.specs.run.Machine.{BlockId}
use Rattle.sem_run.specs.run.Host.{Here, Frame, Store, BlockResult}
use Rattle.sem_run.specs.run.State as run
use Rattle.pt_code_facts.specs.sem_rows.pt_host.World.{Names, World, Stores, CodeFacts, Program}
use Rattle.pt_code_facts.specs.sem_rows.pt_host.Classes.{own_names}
use Rattle.pt_code_facts.specs.sem_rows.pt_host.HeapHost.{heap_host}
use Rattle.sem_run.specs.transitions.Successors.{Successor}
use Rattle.pt_bare_runs.specs.Strides as bare
use Rattle.pt_bare_runs.specs.Strides.{Waiting, active_in as active_among}
use Rattle.sem_code_machine.specs.code_machine.CodeBlocks.{CodeBlocks, machine}
use Rattle.pt_code_facts.specs.sem_rows.heap_rows.Views.{slots_view, names_view, world_view, stores_view}
use Rattle.pt_code_facts.specs.sem_rows.heap_rows.Told.{block_id, resumed}
use Rattle.pt_machine_state.specs.declared.machine.Machine.{Machine}
use Rattle.pt_machine_state.specs.declared.machine.Standing.{Standing}
use Rattle.pt_machine_state.specs.declared.machine.Standing.TheVariants as standing

abbrev pub Bare : Type 0
Bare = bare.State (State Value) Names Value World

abbrev pub Waits : Type 0
Waits = Waiting (State Value) Names Value World

abbrev pub block_of : Activation → BlockId
block_of a = block_id a.block a.hidden

-- of what a run keeps beside the machine: the number of the act that runs, and what activations that wait are for
pub record Beside : Type 0 where
  pub act : ℕ
  pub waiting : List Waits

abbrev pub state_of : Standing → Activation → State Value
state_of standing.AtPlace a = on a.pc.0 (slots_view a.slots)
state_of (standing.Returns v) a = off (gave v)
state_of (standing.Raises v) a = off (left_by v)

-- the exception that is active in the run (7.8)
abbrev pub active_of : Machine → Option Value
active_of m = option_or (active_in m.here.slots) (active_exception m.frames.activations)

-- local names of a block have their places, also where there are names of a class behind them
abbrev pub ArePlaced : CodeFacts → (names : Named) → (locals : List (Option Value)) → Type 0
ArePlaced facts names locals = (names ≡ []) ⊎ (length facts.locals ≤ length locals)

module _ (program : Program) where
  abbrev pub IsPlaced : Activation → Type 0
  IsPlaced a = ArePlaced (program.facts (block_of a)) a.names a.locals

  -- those of a class are what stands there by text
  abbrev pub HasOwnNames : Activation → Type 0
  HasOwnNames a = own_names (program.facts (block_of a)).locals (names_view (program.facts (block_of a)) a).values ≡ a.names

  abbrev pub frame_of : Activation → Frame Names Value
  frame_of a = record {
    number = a.frame.0;
    block = block_of a;
    names = names_view (program.facts (block_of a)) a;
    line = option_map (λ l. l.0) a.line;
    trace = None;
    traces_lines = true;
    of_generator = false;
  }

  abbrev pub activation_of : Activation → State Value → (act : ℕ) → run.Activation (State Value) Names Value
  activation_of a c n = record { frame = frame_of a; state = c; act = n; behind_jump = false }

  -- a run with the newest activation in this state of its block's code
  abbrev pub run_in : State Value → Machine → Beside → Bare
  run_in c m x = record {
    here = activation_of m.here c x.act;
    waiting = x.waiting;
    world = world_view m.frames m.heap;
    units = m.units;
    frames = m.frames.frame_count;
  }

  abbrev pub run_of : Machine → Beside → Bare
  run_of m x = run_in (state_of m.standing m.here) m x

  abbrev pub stores_of : Machine → Stores
  stores_of m = stores_view (program.facts (block_of m.here)) m.here m.frames m.heap

-- an exception that arises at this ask is told as it is
abbrev pub IsPlain : Ask Value → Type 0
IsPlain a = (active : Option Value) (v : Value) → E.arisen active a v ≡ E.raises v

module _ (program : Program) (code : CodeBlocks Value) where
  -- what a host knows of an activation that asks something above others that wait
  abbrev pub here_above : Activation → State Value → List Waits → Here Value
  here_above a c ws = record {
    frame = a.frame.0;
    block = block_of a;
    active = or_else (active_at c) (active_among (machine code) (heap_host program) ws);
  }

  -- where the result of a block leads, by what it is for
  abbrev pub led_to : (closed : BlockId) → Purpose → Here Value → CodeObject Value → Ins → S.Slots Value → BlockResult Names Value → Store Names World
      → Successor (State Value) Names Value World
  led_to closed why h object i ss r st = resumed program object i (program.facts closed) why ss r h st

  -- an activation waits at a call, below the block above and above what waits below, for what a run says that waits: what the block gives is taken for
  -- its purpose, and it goes on behind the call with the value, or where an exception lands
  pub record WaitsFor (above : BlockId) (o : OpenActivation) (w : Waits) (below : List Waits) : Type 0 where
    pub state : State Value
    pub act : ℕ
    pub seen : w.activation ≡ activation_of program o.activation state act
    pub active : active_at state ≡ active_in o.activation.slots
    pub ins : Ins
    pub there : (code.object (block_of o.activation)).at o.activation.pc.0 ≡ Some ins
    pub leads : w.leads ≡ led_to above o.why (here_above o.activation state below) (code.object (block_of o.activation)) ins (slots_view o.activation.slots)
    pub plain : IsPlain w.ask
    pub placed : IsPlaced program o.activation

  -- below the block above
  pub data AllWait : (above : BlockId) → List OpenActivation → List Waits → Type 0 where
    none : (b : BlockId) → AllWait b [] []
    more : (b : BlockId) (o : OpenActivation) (w : Waits) (os : List OpenActivation) (ws : List Waits) → WaitsFor b o w ws
        → AllWait (block_of o.activation) os ws → AllWait b (o ∷ os) (w ∷ ws)
