-- The state of a run: open activations, generators, hooks that are being asked, and what waits for each (Language Reference 4.1).
use Rattle.std.specs.Prelude.{ℕ, suc, nat_le, List, [], ◌∷◌, length, Bool, true, false, ◌||◌, Option, None}
use Rattle.pt_base.specs.declared.what.What.{What}
use Rattle.sem_control.specs.control.Turn.{Ask, Answer, Reply, End}
use Rattle.sem_run.specs.run.Machine.{BlockId, Machine}
use Rattle.sem_run.specs.run.Events.{Happening, starts, Event}
use Rattle.sem_run.specs.run.Tools.{Tools, no_tools}
use Rattle.sem_run.specs.run.Host.{Store, Opening, BlockResult, GeneratorResult, Frame, Answering, leave, Finding, Callee, Hook}

-- a block that runs: its frame, the machine's state, the number of the act that runs or of the last one done, and whether a jump
-- came behind that
pub record Activation (S N V : Type 0) : Type 0 where
  pub frame : Frame N V
  pub state : S
  pub act : ℕ
  pub behind_jump : Bool

-- an ask with how its reply goes on; whether it is an act, so that it is told; and what is told of it if it is a call
pub record OpenAsk (S V : Type 0) : Type 0 where
  pub ask : Ask V
  pub next : Reply V (Answer V ask) → S
  pub is_act : Bool
  pub callee : Option (Callee V)

-- an ask that gave a value on, and what its reply is by what comes back
pub record OpenYield (S V : Type 0) : Type 0 where
  pub ask : OpenAsk S V
  pub reply : Reply V V → Reply V (Answer V ask.ask)

-- what waits in an activation while events are told; a raise of a hook takes its place
pub data Pending (S V : Type 0) : Type 0 where
  -- the block begins in a state
  starting : (first : S) → Pending S V
  -- an act, or an ask that isn't one, is to be done
  doing : OpenAsk S V → Pending S V
  -- it goes on in a state, or in another where an exception is raised instead
  going : (to : S) (instead : V → S) → Pending S V
  -- it gives a value on, and goes on with what comes back
  giving_on : OpenYield S V → V → Pending S V
  going_on : OpenYield S V → Reply V V → Pending S V
  -- the block ends
  ending : End V → Pending S V

-- an event that is told: who is still to be asked, what else is told there, and what waits
pub record Telling (S V : Type 0) : Type 0 where
  pub event : Event V
  pub hooks : List Hook
  pub behind : List (Happening V)
  pub pending : Pending S V

-- a hook that was asked
pub record Hearing (S V : Type 0) : Type 0 where
  pub hook : Hook
  pub telling : Telling S V

-- the rest of an answer, for the one to an ask or a hook's, by what a request gives
pub data Rest (S N V W G : Type 0) : Type 0 where
  of_ask : (q : OpenAsk S V) → (G → Store N W → Answering N V W (Finding V q.ask)) → Rest S N V W G
  of_hook : Hearing S V → (G → Store N W → Answering N V W V) → Rest S N V W G

-- what an activation is open for: the block that runs, or the generator that goes on, gives its result to what waits
pub data Purpose (S N V W : Type 0) : Type 0 where
  for_block : Rest S N V W (BlockResult N V) → Purpose S N V W
  for_generator : (generator : ℕ) → Rest S N V W (GeneratorResult V) → Purpose S N V W

-- an activation that waits, and for what the next newer one is open
pub record Opener (S N V W : Type 0) : Type 0 where
  pub activation : Activation S N V
  pub purpose : Purpose S N V W

-- a generator (Language Reference 6.2.9)
pub data Generator (S N V : Type 0) : Type 0 where
  fresh : Activation S N V → Generator S N V
  suspended : Activation S N V → OpenYield S V → Generator S N V
  running : Generator S N V
  finished : Generator S N V

-- what is going on in the newest activation
pub data Phase (S N V W : Type 0) : Type 0 where
  -- the machine's next turn begins
  turning : Phase S N V W
  -- this is to be told, and then what waits goes on
  telling : List (Happening V) → Pending S V → Phase S N V W
  -- an event is told
  asking : Telling S V → Phase S N V W
  -- the host answers an ask, or a hook
  answering : (q : OpenAsk S V) → Answering N V W (Finding V q.ask) → Phase S N V W
  hearing : Hearing S V → Answering N V W V → Phase S N V W
  -- the activation closes
  closing : End V → Phase S N V W

pub record State (S N V W : Type 0) : Type 0 where
  -- the newest activation, and those that wait, the newest first
  pub here : Activation S N V
  pub phase : Phase S N V W
  pub openers : List (Opener S N V W)
  pub generators : List (Generator S N V)
  -- the frames of activations that have closed, the last first
  pub past : List (Frame N V)
  pub world : W
  -- the global trace function, and the tools
  pub trace : Option V
  pub tools : Tools V
  -- the units taken, and the number of the next frame
  pub units : ℕ
  pub frames : ℕ

abbrev pub in_frame : {S N V : Type 0} → Frame N V → Activation S N V → Activation S N V
in_frame f a = record a { frame = f }

-- so many activations may be open
abbrev pub most_activations : ℕ
most_activations = 1000

module _ {S N V W : Type 0} where
  abbrev pub at : Phase S N V W → State S N V W → State S N V W
  at p s = record s { phase = p }

  -- the phase is behind an answer's rest
  abbrev pub by_rest : {G : Type 0} → Rest S N V W G → G → Store N W → Phase S N V W
  by_rest (of_ask q f) g st = answering q (f g st)
  by_rest (of_hook h f) g st = hearing h (f g st)

  -- the same where the run leaves the profile
  abbrev pub by_leaving : {G : Type 0} → Rest S N V W G → What → Phase S N V W
  by_leaving (of_ask q f) what = answering q (leave what)
  by_leaving (of_hook h f) what = hearing h (leave what)

  abbrev pub waits_for_hook : {G : Type 0} → Rest S N V W G → Bool
  waits_for_hook (of_ask q f) = false
  waits_for_hook (of_hook h f) = true

  abbrev pub is_hook_open : Purpose S N V W → Bool
  is_hook_open (for_block r) = waits_for_hook r
  is_hook_open (for_generator g r) = waits_for_hook r

  -- a hook runs: nothing is told then
  abbrev pub hook_runs : List (Opener S N V W) → Bool
  hook_runs [] = false
  hook_runs (o ∷ os) = is_hook_open o.purpose || hook_runs os

  abbrev pub is_full : State S N V W → Bool
  is_full s = nat_le most_activations (suc (length s.openers))

  abbrev pub is_silent : State S N V W → Bool
  is_silent s = s.here.frame.block.hidden || hook_runs s.openers

  -- what an answer in the newest activation reads and changes
  abbrev pub store : State S N V W → Store N W
  store s = record { names = s.here.frame.names; world = s.world }

  abbrev pub with_store : Store N W → State S N V W → State S N V W
  with_store st s = record s { here = in_frame (record s.here.frame { names = st.names }) s.here; world = st.world }

  -- the newest activation is in a state of its machine
  abbrev pub in_state : S → State S N V W → State S N V W
  in_state c s = record s { here = record s.here { state = c } }

module _ {S N V : Type 0} (machine : Machine S V) where
  abbrev pub activation_of : BlockId → (iterator : Option V) → N → (frame : ℕ) → (of_generator : Bool) → Activation S N V
  activation_of b i n k g = record {
    frame = record { number = k; block = b; names = n; line = None; trace = None; traces_lines = true; of_generator = g };
    state = machine.start b i;
    act = 0;
    behind_jump = false;
  }

  abbrev pub begin : Opening N V → (frame : ℕ) → (of_generator : Bool) → Activation S N V
  begin o k g = activation_of o.block o.iterator o.names k g

module _ {S N V W : Type 0} (machine : Machine S V) where
  -- the module begins, in frame 0
  abbrev pub start : (block : BlockId) → N → W → State S N V W
  start b n w = record {
    here = activation_of machine b None n 0 false;
    phase = telling (starts ∷ []) (starting (machine.start b None));
    openers = [];
    generators = [];
    past = [];
    world = w;
    trace = None;
    tools = no_tools;
    units = 0;
    frames = 1;
  }
