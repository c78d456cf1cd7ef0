-- How an event is told, and what the answers of hooks do (Library Reference, sys.settrace and sys.monitoring).
use Rattle.std.specs.Prelude.{ℕ, List, [], ◌∷◌, Option, Some, None, if◌then◌else◌}
use Rattle.sem_control.specs.control.Bases.{or_else}
use Rattle.sem_control.specs.control.Turn as T
use Rattle.sem_control.specs.control.Turn.{End, gave, left_by}
use Rattle.sem_run.specs.run.Machine as M
use Rattle.sem_run.specs.run.Machine.{Machine, Reason, not_at_line, Jump}
use Rattle.sem_run.specs.run.Events.{Happening, raises, unwinds, Event, bit, TraceKind, a_call, a_line, a_return, an_exception, trace_kind}
use Rattle.sem_run.specs.run.Events.{is_line, is_for_debugger}
use Rattle.sem_run.specs.run.Tools.{Location, is_local, wants, switch_off, without}
use Rattle.sem_run.specs.run.Host.{Host, Frame, Hook, log, debugger, landing, refusal, tool, tracer, not_local, Made, made, beyond}
use Rattle.sem_run.specs.run.Host.{leave}
use Rattle.sem_run.specs.run.State.{Pending, starting, doing, going, giving_on, going_on, ending, Telling, Hearing, turning, telling}
use Rattle.sem_run.specs.run.State.{asking, hearing, closing, State, at, in_state, in_frame, store}
use Rattle.sem_run.specs.run.Views.{line_of, here_of}
use Rattle.sem_run.specs.run.Outcome.{Output, logs, refuses, about, about_landing, about_refusal, quit, Advice, go, jump_to, give_up}
use Rattle.sem_run.specs.run.Outcome.{Step, goes, consults, ends}
use Rattle.sem_run.specs.run.Requests.{land_here}

-- the order in which an event is told
abbrev pub all_hooks : List Hook
all_hooks = log ∷ debugger ∷ tool 0 ∷ tool 1 ∷ tool 2 ∷ tool 3 ∷ tool 4 ∷ tool 5 ∷ tracer ∷ []

-- the world once an exception has come to a frame: it gets an entry of its traceback where the frame is visible
abbrev pub world_with_entry : {N V W : Type 0} → Host N V W → V → Frame N V → W → W
world_with_entry host v f w =
    if f.block.hidden then w else host.enters v (record { frame = f.number; block = f.block; line = line_of host.first_line f }) w

abbrev pub world_behind : {N V W : Type 0} → Host N V W → Happening V → Frame N V → W → W
world_behind host (raises v) f w = world_with_entry host v f w
world_behind host h f w = w

-- a trace function that raises is unset
abbrev pub trace_unless : {V : Type 0} → Hook → Option V → Option V
trace_unless tracer f = None
trace_unless h f = f

-- the trace function that is due in a frame: the global one at a call, else the frame's own where there is a global one, for
-- lines if they are traced
abbrev pub own_trace : {N V : Type 0} → TraceKind → (global : V) → Frame N V → Option V
own_trace a_call g f = Some g
own_trace a_line g f = if f.traces_lines then f.trace else None
own_trace k g f = f.trace

abbrev pub trace_due : {N V : Type 0} → Option TraceKind → (global : Option V) → Frame N V → Option V
trace_due (Some k) (Some g) f = own_trace k g f
trace_due k g f = None

-- the trace function of a frame behind an answer v: the answer to a call is it, or that there is none; another one replaces it
-- unless it is None, but that to a return
abbrev pub trace_behind : {V : Type 0} → Option TraceKind → (answer : Option V) → (trace : Option V) → Option V
trace_behind (Some a_call) v f = v
trace_behind (Some a_line) v f = or_else v f
trace_behind (Some an_exception) v f = or_else v f
trace_behind (Some a_return) v f = f
trace_behind None v f = f

-- the log has a line for the four kinds of events
abbrev pub log_of : {N V W : Type 0} → Host N V W → Option TraceKind → Event V → W → List (Output V)
log_of host (Some k) e w = logs (host.log_line e w) ∷ []
log_of host None e w = []

module _ {S N V W : Type 0} (machine : Machine S V) (host : Host N V W) where
  abbrev pub event_of : Happening V → State S N V W → Event V
  event_of h s = record {
    what = h;
    frame = s.here.frame.number;
    block = s.here.frame.block;
    act = s.here.act;
    line = line_of host.first_line s.here.frame;
    of_generator = s.here.frame.of_generator;
  }

  -- an exception comes to a frame
  abbrev pub enter_frame : V → State S N V W → State S N V W
  enter_frame v s = record s { world = world_with_entry host v s.here.frame s.world }

  -- one that arises or arrives does so when its turn comes to be told, whether or not it is
  abbrev pub enter_told : Happening V → State S N V W → State S N V W
  enter_told h s = record s { world = world_behind host h s.here.frame s.world }

  -- a raise of a hook takes the place of what waits, and isn't told there; where the block was about to end by an exception
  -- nothing more is told
  abbrev pub instead_of : Pending S V → V → State S N V W → State S N V W
  instead_of (starting c) v s = at (telling (unwinds v ∷ []) (ending (left_by v))) s
  instead_of (doing q) v s = at turning (in_state (q.next (T.raised v)) s)
  instead_of (going to f) v s = at turning (in_state (f v) s)
  instead_of (giving_on y u) v s = at turning (in_state (y.ask.next (T.raised v)) s)
  instead_of (going_on y r) v s = at turning (in_state (y.ask.next (T.raised v)) s)
  instead_of (ending (gave u)) v s = at (telling (unwinds v ∷ []) (ending (left_by v))) s
  instead_of (ending (left_by u)) v s = at (closing (left_by v)) s

  abbrev pub unset_by : Hook → State S N V W → State S N V W
  unset_by h s = record s { trace = trace_unless h s.trace }

  abbrev pub raise_of_hook : Hearing S V → V → State S N V W → State S N V W
  raise_of_hook h v s = instead_of h.telling.pending v (enter_frame v (unset_by h.hook s))

  -- who is still to be asked
  abbrev pub asks : List Hook → Telling S V → State S N V W → State S N V W
  asks hs t s = at (asking (record t { hooks = hs })) s

  abbrev pub location : (tool : ℕ) → Event V → Location
  location n e = record { tool = n; bit = bit e.what; block = e.block; act = e.act }

  -- a hook whose function is due is called with the event
  abbrev pub call_hook : Option V → Hook → List Hook → Telling S V → State S N V W → Step S N V W
  call_hook (Some f) h hs t s =
      goes [] (at (hearing (record { hook = h; telling = record t { hooks = hs } }) (host.hears h f t.event (here_of machine s) (store s))) s)
  call_hook None h hs t s = goes [] (asks hs t s)

  -- the next hook is asked; whether it is due is looked up now
  abbrev pub ask_next : List Hook → Telling S V → State S N V W → Step S N V W
  ask_next [] t s = goes [] (at (telling t.behind t.pending) s)
  ask_next (log ∷ hs) t s = goes (log_of host (trace_kind t.event.what) t.event s.world) (asks hs t s)
  ask_next (debugger ∷ hs) t s =
      if is_for_debugger t.event.what then consults (about t.event) (record t { hooks = hs }) s else goes [] (asks hs t s)
  ask_next (landing l ∷ hs) t s = consults (about_landing l) (record t { hooks = hs }) s
  ask_next (refusal r ∷ hs) t s = consults (about_refusal r) (record t { hooks = hs }) s
  ask_next (tool n ∷ hs) t s = call_hook (wants s.tools (location n t.event)) (tool n) hs t s
  ask_next (tracer ∷ hs) t s = call_hook (trace_due (trace_kind t.event.what) s.trace s.here.frame) tracer hs t s

  -- a debugger's jump: a permitted one drops the rest of the event, a refused one leaves all as it is; it is told of either
  abbrev pub try_jump : (line : ℕ) → Jump S V → Telling S V → State S N V W → Step S N V W
  try_jump l (M.refuses r) t s = goes (refuses l r ∷ []) (asks (refusal r ∷ t.hooks) t s)
  try_jump l (M.lands to c f) t s =
      goes [] (asks (landing l ∷ []) (record t { behind = []; pending = going c f }) (land_here machine host to l s))

  abbrev pub take_advice : Advice → Telling S V → State S N V W → Step S N V W
  take_advice go t s = goes [] (at (asking t) s)
  take_advice (jump_to l) t s =
      try_jump l (if is_line t.event.what then machine.jump s.here.frame.block s.here.state l else M.refuses not_at_line) t s
  take_advice give_up t s = ends quit

  abbrev pub trace_by_answer : Option TraceKind → V → State S N V W → State S N V W
  trace_by_answer k v s =
      record s { here = in_frame (record s.here.frame { trace = trace_behind k (host.unless_null v) s.here.frame.trace }) s.here }

  abbrev pub refuse_disable : Location → Hearing S V → Made V W → State S N V W → State S N V W
  refuse_disable l h (made e w) s = raise_of_hook h e (record s { world = w; tools = without l s.tools })
  refuse_disable l h (beyond what) s = at (hearing h (leave what)) s

  -- DISABLE switches the event off at its place; at an event without one it takes the callback away, and a ValueError comes
  abbrev pub disable : Location → Hearing S V → State S N V W → State S N V W
  disable l h s =
      if is_local l.bit then at (asking h.telling) (record s { tools = switch_off l s.tools })
      else refuse_disable l h (host.makes not_local (here_of machine s) s.world) s

  -- a hook answered
  abbrev pub take_hook_answer : Hook → V → Hearing S V → State S N V W → State S N V W
  take_hook_answer (tool n) v h s = if host.is_disable v then disable (location n h.telling.event) h s else at (asking h.telling) s
  take_hook_answer tracer v h s = at (asking h.telling) (trace_by_answer (trace_kind h.telling.event.what) v s)
  take_hook_answer k v h s = at (asking h.telling) s
