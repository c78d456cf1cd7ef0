-- Runs that nothing hooks into: there is no debugger, no tool and no trace function, and the host requests nothing but that blocks run, so there are
-- no generators, which alone give values on. A stride leads from one turn of the machine to the next (Language Reference 4.1, 6.3.4; PEP 626).
use Rattle.std.specs.Prelude.{ℕ, suc, ◌+◌, nat_lt, nat_le, List, [], ◌∷◌, ◌++◌, length, Bool, false, Option, Some, None, if◌then◌else◌}
use Rattle.pt_base.specs.declared.what.What.{What}
use Rattle.pt_base.specs.declared.what.What.TheVariants.{Exit}
use Rattle.sem_control.specs.control.Bases.{or_else}
use Rattle.sem_control.specs.control.Turn as T
use Rattle.sem_control.specs.control.Turn.{Mark, Ask, got, End, gave, left_by, Turn}
use Rattle.sem_control.specs.control.LineEvents.{is_told}
use Rattle.sem_control.specs.control.Events as E
use Rattle.sem_run.specs.run.Machine.{BlockId, Machine}
use Rattle.sem_run.specs.run.Events as Told
use Rattle.sem_run.specs.run.Events.{Happening, starts, returns, unwinds, TraceKind, Event, trace_kind}
use Rattle.sem_run.specs.run.Host as H
use Rattle.sem_run.specs.run.Host.{Host, Here, Store, Opening, BlockResult, Frame, too_deep, Made, made, beyond, Leaving}
use Rattle.sem_run.specs.run.State as run
use Rattle.sem_run.specs.run.State.{Activation, begin, activation_of, most_activations}
use Rattle.sem_run.specs.run.Views.{visible, line_of, line_of_first}
use Rattle.sem_run.specs.run.Hooks.{world_with_entry}
use Rattle.sem_run.specs.run.Step.{line_before}
use Rattle.sem_run.specs.run.Run.{Write, write, to_out, to_log}
pub use Rattle.sem_run.specs.run.Shown.{Ending, done, exited, raised, spent, outside_at, Outcome}
use Rattle.sem_run.specs.transitions.Transitions.{transition}
use Rattle.sem_run.specs.transitions.Successors.{Successor, to, arises, behind_yield, behind_print, behind_request, behind_note, outside, end, none, successor}

-- an activation that waits for the result of the next newer one: what it asked, and where the result leads
pub record Waiting (S N V W : Type 0) : Type 0 where
  pub activation : Activation S N V
  pub ask : Ask V
  pub leads : BlockResult N V → Store N W → Successor S N V W

-- the newest activation and those that wait, the newest first; the acts that were taken, and the number of the next frame
pub record State (S N V W : Type 0) : Type 0 where
  pub here : Activation S N V
  pub waiting : List (Waiting S N V W)
  pub world : W
  pub units : ℕ
  pub frames : ℕ

-- what is written, to out and to the log in one order, and what comes behind it
pub data Stride (S N V W : Type 0) : Type 0 where
  goes : List Write → State S N V W → Stride S N V W
  ends : List Write → (units : ℕ) → Ending V W → Stride S N V W
  is_stuck : Stride S N V W

abbrev pub behind : {S N V W : Type 0} → List Write → Stride S N V W → Stride S N V W
behind ws (goes vs s) = goes (ws ++ vs) s
behind ws (ends vs n e) = ends (ws ++ vs) n e
behind ws is_stuck = is_stuck

module _ {S N V W : Type 0} where
  abbrev pub in_state : S → State S N V W → State S N V W
  in_state c s = record s { here = record s.here { state = c } }

  abbrev pub store : State S N V W → Store N W
  store s = record { names = s.here.frame.names; world = s.world }

  abbrev pub with_store : Store N W → State S N V W → State S N V W
  with_store st s = record s { here = run.in_frame (record s.here.frame { names = st.names }) s.here; world = st.world }

  abbrev pub in_world : W → State S N V W → State S N V W
  in_world w s = record s { world = w }

  -- an act takes its unit, and its frame has its line
  abbrev pub take_unit : Mark → State S N V W → State S N V W
  take_unit m s = record s {
    here = record s.here { frame = record s.here.frame { line = Some m.line }; act = m.act; behind_jump = false };
    units = suc s.units;
  }

  abbrev pub is_full : State S N V W → Bool
  is_full s = nat_le most_activations (suc (length s.waiting))

  abbrev pub frames_in : List (Waiting S N V W) → List (Frame N V)
  frames_in [] = []
  frames_in (o ∷ os) = o.activation.frame ∷ frames_in os

  abbrev pub open_frames : State S N V W → List (Frame N V)
  open_frames s = s.here.frame ∷ frames_in s.waiting

module _ {S N V W : Type 0} (machine : Machine S V) (host : Host N V W) where
  -- the line of the innermost visible frame
  abbrev pub visible_line : State S N V W → ℕ
  visible_line s = line_of_first host.first_line s.here.frame (visible (open_frames s))

  -- the exception that is active: that of the newest activation with one (7.8)
  abbrev pub active_in : List (Waiting S N V W) → Option V
  active_in [] = None
  active_in (o ∷ os) = or_else (machine.active o.activation.state) (active_in os)

  abbrev pub here_of : State S N V W → Here V
  here_of s = record {
    frame = s.here.frame.number;
    block = s.here.frame.block;
    active = or_else (machine.active s.here.state) (active_in s.waiting);
  }

  abbrev pub event_of : Happening V → State S N V W → Event V
  event_of h s = record {
    what = h;
    frame = s.here.frame.number;
    block = s.here.frame.block;
    act = s.here.act;
    line = line_of host.first_line s.here.frame;
    of_generator = s.here.frame.of_generator;
  }

  -- the log has a line for each event of `sys.settrace` in a visible block
  abbrev pub line_of_kind : Option TraceKind → Happening V → State S N V W → List Write
  line_of_kind (Some k) h s = write to_log (host.log_line (event_of h s) s.world) ∷ []
  line_of_kind None h s = []

  abbrev pub logged : Happening V → State S N V W → List Write
  logged h s = if s.here.frame.block.hidden then [] else line_of_kind (trace_kind h) h s

  -- a line is told where it is another than the frame's, where a test begins again, and before the first act
  abbrev pub line_logged : Mark → (before : Option ℕ) → State S N V W → List Write
  line_logged m l s = if is_told l m then logged (Told.line false) s else []

  -- an exception arises: its traceback has the frame, and it is told
  abbrev pub raise_here : V → State S N V W → State S N V W
  raise_here v s = in_world (world_with_entry host v s.here.frame s.world) s

  abbrev pub arise : E.Event V → S → State S N V W → Stride S N V W
  arise (E.raises v) c s = goes (logged (Told.raises v) (raise_here v s)) (in_state c (raise_here v s))
  arise e c s = goes [] (in_state c s)

  -- how the module ends
  abbrev pub end_by_exception : V → Leaving → State S N V W → Ending V W
  end_by_exception v (H.exits n x) s = exited n x
  end_by_exception v H.exits_oddly s = outside_at Exit (visible_line s)
  end_by_exception v (H.fails es) s = raised v s.world

  abbrev pub end_of_module : End V → State S N V W → Ending V W
  end_of_module (gave v) s = done
  end_of_module (left_by v) s = end_by_exception v (host.leaving v s.world) s

  abbrev pub end_logged : End V → State S N V W → List Write
  end_logged (gave v) s = logged (returns v) s
  end_logged (left_by v) s = logged (unwinds v) s

  -- an activation opens above the newest one, which waits; it is told once it is there
  abbrev pub open_above : Ask V → (BlockResult N V → Store N W → Successor S N V W) → Opening N V → State S N V W → State S N V W
  open_above a f o s = record s {
    here = begin machine o s.frames false;
    waiting = record { activation = s.here; ask = a; leads = f } ∷ s.waiting;
    frames = s.frames + 1;
  }

  -- what a block's result goes to is the newest one again
  abbrev pub return_to : Waiting S N V W → List (Waiting S N V W) → State S N V W → State S N V W
  return_to o os s = record s { here = o.activation; waiting = os }

  -- a block opens; in place of one too many there is a RecursionError, by which the block's result goes on
  abbrev pub fail_opening : (goes_on : BlockResult N V → State S N V W → Stride S N V W) → Opening N V → Made V W → State S N V W → Stride S N V W
  fail_opening g o (made v w) s = g (record { end = left_by v; names = o.names }) (in_world w s)
  fail_opening g o (beyond what) s = ends [] s.units (outside_at what (visible_line s))

  abbrev pub open_or_fail : Ask V → (BlockResult N V → Store N W → Successor S N V W) → (goes_on : BlockResult N V → State S N V W → Stride S N V W) →
      Opening N V → State S N V W → Stride S N V W
  open_or_fail a f g o s =
      if is_full s then fail_opening g o (host.makes too_deep (here_of s) s.world) s
      else goes (logged starts (open_above a f o s)) (open_above a f o s)

  -- where an ask leads
  abbrev pub lead : Ask V → Successor S N V W → State S N V W → Stride S N V W
  lead a (to c st) s = goes [] (in_state c (with_store st s))
  lead a (arises v c st) s = arise (E.arisen (here_of (with_store st s)).active a v) c (with_store st s)
  lead a (behind_yield v k st) s = is_stuck
  lead a (behind_print t x) s = behind (write to_out t ∷ []) (lead a x s)
  lead a (behind_request (H.opens o) st f) s = open_or_fail a f (λ r z. lead a (f r (store z)) z) o (with_store st s)
  lead a (behind_request r st f) s = is_stuck
  lead a (behind_note v k) s = goes [] (in_state (k (got tt)) s)
  lead a (outside what) s = ends [] s.units (outside_at what (visible_line s))
  lead a (end e) s = is_stuck
  lead a none s = is_stuck

  -- the block ends, and its result goes to what waits for it
  abbrev pub close : End V → List (Waiting S N V W) → State S N V W → Stride S N V W
  close e [] s = ends [] s.units (end_of_module e s)
  close e (o ∷ os) s =
      lead o.ask (o.leads (record { end = e; names = s.here.frame.names }) (store (return_to o os s))) (return_to o os s)

  abbrev pub begin_act : (n : ℕ) → Mark → Ask V → Turn S V → State S N V W → Stride S N V W
  begin_act n m a t s =
      if nat_lt s.units n
      then behind (line_logged m (line_before s.here) (take_unit m s))
      (lead a (successor (transition host t (here_of (take_unit m s)) (store (take_unit m s)))) (take_unit m s))
      else ends [] s.units spent

  -- a turn of the machine, where n units may be taken
  abbrev pub take_turn : (n : ℕ) → Turn S V → State S N V W → Stride S N V W
  take_turn n (T.act (Some m) a k) s = begin_act n m a (T.act (Some m) a k) s
  take_turn n (T.act None a k) s = lead a (successor (transition host (T.act None a k) (here_of s) (store s))) s
  take_turn n (T.note v k) s = goes [] (in_state (k (got tt)) s)
  take_turn n (T.move c) s = goes [] (in_state c s)
  take_turn n (T.over e) s = behind (end_logged e s) (close e s.waiting s)
  take_turn n T.stuck s = is_stuck

  abbrev pub stride : (n : ℕ) → State S N V W → Stride S N V W
  stride n s = take_turn n (machine.turn s.here.frame.block s.here.state) s

  -- the module's first activation, and that it is told
  abbrev pub start : BlockId → N → W → State S N V W
  start b n w = record { here = activation_of machine b None n 0 false; waiting = []; world = w; units = 0; frames = 1 }

abbrev pub outcome_behind : {V W : Type 0} → List Write → Outcome V W → Outcome V W
outcome_behind ws o = record o { written = ws ++ o.written }

module _ {S N V W : Type 0} (machine : Machine S V) (host : Host N V W) (n : ℕ) where
  -- a run that may take n units comes from a stride to an outcome
  pub data Comes : Stride S N V W → Outcome V W → Type 0 where
    ends_so : (ws : List Write) (u : ℕ) (e : Ending V W) → Comes (ends ws u e) (record { written = ws; units = u; ending = e })
    goes_on : (ws : List Write) (s : State S N V W) (o : Outcome V W) → Comes (stride machine host n s) o → Comes (goes ws s) (outcome_behind ws o)

  -- the run of a block as the module's: it starts, which is told
  abbrev pub Runs : BlockId → N → W → Outcome V W → Type 0
  Runs b x w o = Comes (goes (logged machine host starts (start machine host b x w)) (start machine host b x w)) o
