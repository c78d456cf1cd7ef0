-- When an entry of the machine's stack stands for an activation of a run that waits, over any
-- machine of code (Language Reference 4.1, 6.2.9; Library Reference, `sys.settrace`,
-- `sys.monitoring`).
use Rattle.std.specs.Prelude.{◌≡◌, ℕ, ◌-◌, List, [], ◌∷◌, length, Bool, false, Option, Some, None}
use Rattle.pt_heap.specs.declared.value.Value.{Value}
use Rattle.pt_frames.specs.declared.activation.Activation.{Activation}
use Rattle.sem_control.specs.control.Turn as T
use Rattle.sem_control.specs.control.Turn.{Reply, raised, Delegated, gave, left_by}
use Rattle.sem_run.specs.run.Machine.{BlockId, Machine}
use Rattle.sem_run.specs.run.Host.{Here, BlockResult, GeneratorResult, gives_on, ends_by}
use Rattle.sem_run.specs.run.Host.{Finding, Passing, passes_on, ends_with, answer, raise}
use Rattle.sem_run.specs.transitions.Transitions.{by_answer}
use Rattle.sem_run.specs.run.State as run
use Rattle.sem_run.specs.run.State.{OpenAsk, Hearing, of_ask, of_hook, for_block, for_generator}
use Rattle.sem_rows.specs.pt_host.World.{Names, World, Stores, CodeFacts, Program}
use Rattle.sem_rows.specs.pt_host.Trees.{Tree}
use Rattle.sem_rows.specs.heap_rows.Told.{taken}
use Rattle.law_leads.specs.Leads.{left_with}
use Rattle.pt_settrace.specs.Tracing.{Tracing}
use Rattle.pt_happenings.specs.declared.event.Event.{Event}
use Rattle.pt_pendings.specs.declared.pending.Origin.{Origin}
use Rattle.pt_pendings.specs.declared.pending.Pending.{Pending}
use Rattle.pt_pendings.specs.declared.pending.Pending.TheVariants as pending
use Rattle.pt_pendings.specs.declared.telling.Telling.{Telling}
use Rattle.pt_pendings.specs.Stands.{Standpoint, IsAsked, IsTold}
use Rattle.pt_asking.specs.declared.asked.Hook.{Hook as HookOf}
use Rattle.pt_asking.specs.Asking.{hook_view}
use Rattle.pt_frames.specs.declared.purpose.Purpose.{Purpose as For}
use Rattle.pt_frames.specs.declared.purpose.Purpose.TheVariants.{Exit}
use Rattle.pt_purposes.specs.declared.standing.Standing.{Standing}
use Rattle.pt_purposes.specs.declared.standing.Standing.TheVariants.{AtPlace, Landed}
use Rattle.pt_purposes.specs.declared.purpose.Called.{Called}
use Rattle.pt_purposes.specs.declared.purpose.Purpose.{Purpose}
use Rattle.pt_purposes.specs.declared.purpose.Purpose.TheVariants.{Ask, Delegation, Hook}
use Rattle.pt_purposes.specs.declared.opener.Running.{Running}
use Rattle.pt_purposes.specs.declared.opener.Opener.{Opener}
use Rattle.pt_purposes.specs.Seen.{block_of, active_of, frame_of}
use Rattle.pt_purposes.specs.Asks.{Led, DoneSo, TellsSo}

-- what the code of an activation's block tells of where it stands: the state of its machine; the
-- origin of what its instruction asks; of an origin where a raise leads that comes from there, and
-- whether its instruction decides; where the result of a block leads that was called for this, of
-- which this is known, and where a generator's end with a value does
pub record Ways (S : Type 0) : Type 0 where
  pub position : Standing → Activation → S
  pub asked : Activation → Origin
  pub lands : Activation → Origin → Value → S
  pub decides : Activation → Origin → Bool
  pub resumed : Activation → CodeFacts → For → BlockResult Names Value → Here Value → Stores → Led S
  pub ended : Activation → For → Value → Here Value → Stores → Led S

-- what an activation asks comes from its place, with the slots below those that it took
abbrev pub origin_in : Activation → Origin
origin_in a = record { pc = a.pc; below = length a.slots }

-- but the slots of an exit stay on while its block runs, for the raise that they hold is active (8.5)
abbrev pub origin_for : For → Activation → Origin
origin_for (Exit c) a = record { pc = a.pc; below = length a.slots - 2 }
origin_for why a = origin_in a

-- behind a jump that has landed the block goes on at its place
abbrev pub settled : Standing → Standing
settled Landed = AtPlace
settled s = s

-- as a hook is asked the activation stands where the event came, but where the reply of its ask is
-- there already and it goes on elsewhere
abbrev pub UnlessGone : Pending → Standing → Type 0 → Type 0
UnlessGone (pending.Going from) Landed P = P
UnlessGone (pending.Going from) s P = Unit {0}
UnlessGone p s P = P

-- an event of an activation, whose block isn't hidden
pub record IsEventIn (a : Activation) (e : Event) : Type 0 where
  pub frame : e.frame ≡ a.frame
  pub block : e.block ≡ a.block
  pub visible : a.hidden ≡ false

-- the value that is for this is the answer of a hook
abbrev pub HookAnswers : Here Value → CodeFacts → For
    → (BlockResult Names Value → Stores → Tree Value) → Type 0
HookAnswers here facts why f =
    (r : BlockResult Names Value) (st : Stores) → f r st ≡ taken facts why r here st

-- a delegation gives on what a generator gives on, and goes on with the value with which that
-- ends
pub record Delegates (f : GeneratorResult Value → Stores → Tree (Passing Value)) : Type 0 where
  pub gives : (v : Value) (st : Stores) → f (gives_on v) st ≡ answer (passes_on v) st
  pub ends : (v : Value) (st : Stores) → f (ends_by (gave v)) st ≡ answer (ends_with v) st
  pub raises : (v : Value) (st : Stores) → f (ends_by (left_by v)) st ≡ raise v st

abbrev pub delegating : {S : Type 0} → Value → Reply Value Value → (Reply Value (Delegated Value) → S)
    → (is_act : Bool) → OpenAsk S Value
delegating i r k b = record { ask = T.delegate i r; next = k; is_act = b; callee = None }

-- a newer activation was asked for in this frame, where this exception was active in the run
abbrev pub asked_in : Activation → (context : Option Value) → Here Value
asked_in a v = record { frame = a.frame.0; block = block_of a; active = v }

module _ {S : Type 0} (ways : Ways S) where
  -- where an activation stands whose machine is in this state
  abbrev pub standpoint : S → Standing → Activation → Standpoint S
  standpoint c s a = record {
    block = block_of a;
    state = c;
    onward = ways.position (settled s) a;
    asked = ways.asked a;
    lands = ways.lands a;
  }

  -- an ask waits for this: where a raise in place of its reply lands, and what is told of its reply
  pub record IsWaiting (a : Activation) (why : For) (called : Option Called) (is_act : Bool)
      (q : OpenAsk S Value) : Type 0 where
    pub raises : (v : Value) → q.next (raised v) ≡ ways.lands a (origin_for why a) v
    pub told : TellsSo q called is_act (ways.decides a (origin_in a))

  -- what comes of the result of a block of which this is known leads it on where the code goes on
  abbrev pub LeadsOn : (a : Activation) (q : OpenAsk S Value) → Here Value → CodeFacts → For
      → BlockResult Names Value → Stores → Tree (Finding Value q.ask) → Type 0
  LeadsOn a q here facts why r st t =
      DoneSo q (left_with r.end) (ways.resumed a facts why r here st) (by_answer q t)

  abbrev pub BlockLeads : (a : Activation) (q : OpenAsk S Value) → Here Value → CodeFacts → For
      → (BlockResult Names Value → Stores → Tree (Finding Value q.ask)) → Type 0
  BlockLeads a q here facts why f =
      (r : BlockResult Names Value) (st : Stores) → LeadsOn a q here facts why r st (f r st)

  -- and for a generator, whatever names it has: what it gives on is a value, and the value that it ends
  -- with a StopIteration's
  pub record GeneratorLeads (a : Activation) (q : OpenAsk S Value) (here : Here Value)
      (facts : CodeFacts) (why : For)
      (f : GeneratorResult Value → Stores → Tree (Finding Value q.ask)) : Type 0 where
    pub gives : (v : Value) (x : Names) (st : Stores)
        → LeadsOn a q here facts why (record { end = gave v; names = x }) st (f (gives_on v) st)
    pub raises : (v : Value) (x : Names) (st : Stores)
        → LeadsOn a q here facts why (record { end = left_by v; names = x }) st
        (f (ends_by (left_by v)) st)
    pub ends : (v : Value) (st : Stores)
        → DoneSo q None (ways.ended a why v here st) (by_answer q (f (ends_by (gave v)) st))

module _ {S : Type 0} (machine : Machine S Value) (ways : Ways S) where
  -- a hook was asked at an event of this activation
  pub record IsHearing (a : Activation) (c : S) (hook : HookOf) (s : Standing) (t : Telling)
      (x : Hearing S Value) : Type 0 where
    pub asked : x.hook ≡ hook_view hook
    pub event : IsEventIn a t.event
    pub told : IsTold machine (standpoint ways c s a) t x.telling
    pub stands : UnlessGone t.pending s (c ≡ ways.position s a)

  -- what an activation is open for, whose machine is in this state: what comes back of a block of
  -- which this is known is for this, as is asked here. No hook has a generator go on, whose methods
  -- take other arguments
  pub data IsOpenFor (a : Activation) (c : S) (why : For) (here : Here Value)
      (facts : CodeFacts) : Option ℕ → Purpose → run.Purpose S Names Value World → Type 0 where
    block_of_ask : (called : Option Called) (is_act : Bool) (q : OpenAsk S Value)
        (f : BlockResult Names Value → Stores → Tree (Finding Value q.ask))
        → IsWaiting ways a why called is_act q → BlockLeads ways a q here facts why f
        → IsOpenFor a c why here facts None (Ask called is_act) (for_block (of_ask q f))
    generator_of_ask : (g : ℕ) (called : Option Called) (is_act : Bool) (q : OpenAsk S Value)
        (f : GeneratorResult Value → Stores → Tree (Finding Value q.ask))
        → IsWaiting ways a why called is_act q
        → GeneratorLeads ways a q here facts why f
        → IsOpenFor a c why here facts (Some g) (Ask called is_act) (for_generator g (of_ask q f))
    generator_of_delegation : (g : ℕ) (s : Standing) (i : Value) (r : Reply Value Value)
        (k : Reply Value (Delegated Value) → S) (b : Bool)
        (f : GeneratorResult Value → Stores → Tree (Passing Value)) → c ≡ ways.position s a
        → IsAsked machine (standpoint ways c s a) (delegating i r k b) → Delegates f
        → IsOpenFor a c why here facts (Some g) (Delegation s)
        (for_generator g (of_ask (delegating i r k b) f))
    block_of_hook : (hook : HookOf) (s : Standing) (active : Option Value) (t : Telling)
        (x : Hearing S Value) (f : BlockResult Names Value → Stores → Tree Value)
        → IsHearing a c hook s t x → HookAnswers here facts why f
        → IsOpenFor a c why here facts None (Hook hook s active t) (for_block (of_hook x f))

module _ {S : Type 0} (program : Program) (h : Tracing) where
  pub record IsRunning (r : Running) (a : run.Activation S Names Value) : Type 0 where
    pub frame : a.frame ≡ frame_of program h r
    pub act : a.act ≡ r.course.act.0
    pub behind_jump : a.behind_jump ≡ r.course.behind_jump

module _ {S : Type 0} (program : Program) (machine : Machine S Value) (ways : Ways S)
    (h : Tracing) where
  -- an entry of the machine's stack stands for an activation that waits, below one of this block
  pub record IsOpener (above : BlockId) (e : Opener) (o : run.Opener S Names Value World) : Type 0
    where
      pub running : IsRunning program h e.running o.activation
      pub active : machine.active o.activation.state ≡ active_of e
      pub purpose : IsOpenFor machine ways e.running.activation o.activation.state e.why
          (asked_in e.running.activation e.context) (program.facts above) e.generator e.purpose
          o.purpose

  pub data AreOpeners : (above : BlockId) → List Opener → List (run.Opener S Names Value World)
      → Type 0 where
    none : (above : BlockId) → AreOpeners above [] []
    more : (above : BlockId) (e : Opener) (o : run.Opener S Names Value World) (es : List Opener)
        (os : List (run.Opener S Names Value World)) → IsOpener above e o
        → AreOpeners (block_of e.running.activation) es os → AreOpeners above (e ∷ es) (o ∷ os)
