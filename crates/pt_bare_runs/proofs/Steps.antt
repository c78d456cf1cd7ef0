-- The steps of a run within a stride: what is told is logged and asks nobody, and what is written comes in order.
use Rattle.std.proofs.Common.{◌≡◌, ℕ, zero, suc, List, [], ◌∷◌, ◌++◌, length, Bool, true, false, Option, Some, None, refl, sym, ap, ◌∙◌, subst, append_assoc, append-nil, if◌then◌else◌}
use Rattle.std.specs.Prelude.{◌&&◌, ◌||◌, not, nat_le}
use Rattle.sem_control.specs.control.Bases.{or_else}
use Rattle.sem_run.specs.run.Machine.{Machine}
use Rattle.sem_run.specs.run.Events.{Happening, Event, TraceKind, is_for_debugger, trace_kind, starts}
use Rattle.sem_run.specs.run.Tools.{Tool, unused, no_tools, tool_at, Location, has_event, is_off, callback, wants}
use Rattle.sem_run.specs.run.Host.{Host, Here, Hook, debugger, tool, tracer, Frame, FrameView, Store, BlockResult, Answering, Finding}
use Rattle.sem_run.specs.run.State as run
use Rattle.sem_run.specs.run.State.{Activation, OpenAsk, Opener, for_block, of_ask, Pending, starting, Telling, Phase, turning, telling, asking, at, hook_runs, is_silent, in_frame}
use Rattle.sem_run.specs.run.Views as Views
use Rattle.sem_run.specs.run.Views.{frames_of, visible, line_of_first}
use Rattle.sem_run.specs.run.Outcome as O
use Rattle.sem_run.specs.run.Outcome.{Output, Question, Step, consults}
use Rattle.sem_run.specs.run.Hooks.{world_behind, log_of, trace_due, location, call_hook, all_hooks}
use Rattle.sem_run.specs.run.Step.{proceed, step}
use Rattle.sem_run.specs.run.Run.{Write, write, to_out, to_log, Session, moves, move, move_by, Goes, stays, goes_further, writes, nobody}
use Rattle.sem_run.proofs.run.Showing.{writes_append}
use Rattle.sem_run.specs.transitions.Transitions.{by_answer}
use Rattle.sem_run.specs.transitions.Successors.{successor}
use Rattle.pt_bare_runs.specs.Strides as B
use Rattle.pt_bare_runs.specs.Strides.{Waiting, Stride, Ending, behind, logged}
use Rattle.pt_bare_runs.specs.Laws.{ending_with}

-- an activation that waits for a block: what it asked, and the rest of the answer to that
pub record Waiter (S N V W : Type 0) : Type 0 where
  pub activation : Activation S N V
  pub ask : OpenAsk S V
  pub rest : BlockResult N V → Store N W → Answering N V W (Finding V ask.ask)

-- what a state of a run has beside its phase, where nothing hooks into it
pub record Point (S N V W : Type 0) : Type 0 where
  pub here : Activation S N V
  pub waiters : List (Waiter S N V W)
  pub world : W
  pub units : ℕ
  pub frames : ℕ
  pub past : List (Frame N V)

either_way : {A : Type 0} (b : Bool) (x : A) → (if b then x else x) ≡ x
either_way true x = refl
either_way false x = refl

pub if_true : {A : Type 0} (b : Bool) (x y : A) → b ≡ true → (if b then x else y) ≡ x
if_true true x y h = refl
if_true false x y h = absurd (cc)

pub if_false : {A : Type 0} (b : Bool) (x y : A) → b ≡ false → (if b then x else y) ≡ y
if_false true x y h = absurd (cc)
if_false false x y h = refl

module _ {S N V W : Type 0} where
  abbrev pub opener_of : Waiter S N V W → Opener S N V W
  opener_of w = record { activation = w.activation; purpose = for_block (of_ask w.ask w.rest) }

  abbrev pub waiting_of : Waiter S N V W → Waiting S N V W
  waiting_of w = record { activation = w.activation; ask = w.ask.ask; leads = λ r st. successor (by_answer w.ask (w.rest r st)) }

  abbrev pub openers_of : List (Waiter S N V W) → List (Opener S N V W)
  openers_of [] = []
  openers_of (w ∷ ws) = opener_of w ∷ openers_of ws

  abbrev pub waitings_of : List (Waiter S N V W) → List (Waiting S N V W)
  waitings_of [] = []
  waitings_of (w ∷ ws) = waiting_of w ∷ waitings_of ws

  -- the state of the run, and that of the bare one
  abbrev pub stand : Phase S N V W → Point S N V W → run.State S N V W
  stand p x = record {
    here = x.here;
    phase = p;
    openers = openers_of x.waiters;
    generators = [];
    past = x.past;
    world = x.world;
    trace = None;
    tools = no_tools;
    units = x.units;
    frames = x.frames;
  }

  abbrev pub bare : Point S N V W → B.State S N V W
  bare x = record { here = x.here; waiting = waitings_of x.waiters; world = x.world; units = x.units; frames = x.frames }

  -- no jump came
  abbrev pub ArePlain : List (Waiter S N V W) → Type 0
  ArePlain [] = Unit {0}
  ArePlain (w ∷ ws) = (w.activation.behind_jump ≡ false) × ArePlain ws

  abbrev pub IsPlain : Point S N V W → Type 0
  IsPlain x = (x.here.behind_jump ≡ false) × ArePlain x.waiters

  abbrev pub at_store : Store N W → Point S N V W → Point S N V W
  at_store st x = record x { here = in_frame (record x.here.frame { names = st.names }) x.here; world = st.world }

  abbrev pub at_world : W → Point S N V W → Point S N V W
  at_world w x = record x { world = w }

  no_hook : (ws : List (Waiter S N V W)) → hook_runs (openers_of ws) ≡ false
  no_hook [] = refl
  no_hook (w ∷ ws) = no_hook ws

  same_frames : (ws : List (Waiter S N V W)) → frames_of (openers_of ws) ≡ B.frames_in (waitings_of ws)
  same_frames [] = refl
  same_frames (w ∷ ws) = ap (λ fs. w.activation.frame ∷ fs) (same_frames ws)

  same_length : (ws : List (Waiter S N V W)) → length (openers_of ws) ≡ length (waitings_of ws)
  same_length [] = refl
  same_length (w ∷ ws) = ap (λ k. suc k) (same_length ws)

  pub same_full : (p : Phase S N V W) (x : Point S N V W) → run.is_full (stand p x) ≡ B.is_full (bare x)
  same_full p x = ap (λ k. nat_le run.most_activations (suc k)) (same_length x.waiters)

  abbrev here_with : Point S N V W → Option V → Here V
  here_with x o = record { frame = x.here.frame.number; block = x.here.frame.block; active = o }

  module _ (machine : Machine S V) (host : Host N V W) where
    same_active_in : (ws : List (Waiter S N V W)) → Views.active_in machine (openers_of ws) ≡ B.active_in machine host (waitings_of ws)
    same_active_in [] = refl
    same_active_in (w ∷ ws) = ap (or_else (machine.active w.activation.state)) (same_active_in ws)

    pub same_active : (p : Phase S N V W) (x : Point S N V W) → Views.active machine (stand p x) ≡ (B.here_of machine host (bare x)).active
    same_active p x = ap (or_else (machine.active x.here.state)) (same_active_in x.waiters)

    pub same_here : (p : Phase S N V W) (x : Point S N V W) → Views.here_of machine (stand p x) ≡ B.here_of machine host (bare x)
    same_here p x = ap (here_with x) (same_active p x)

    pub same_line : (p : Phase S N V W) (x : Point S N V W) → Views.visible_line host.first_line (stand p x) ≡ B.visible_line machine host (bare x)
    same_line p x = ap (λ fs. line_of_first host.first_line x.here.frame (visible (x.here.frame ∷ fs))) (same_frames x.waiters)

no_tracer : {N V : Type 0} (k : Option TraceKind) (f : Frame N V) → trace_due k None f ≡ None
no_tracer (Some k) f = refl
no_tracer None f = refl

none_there : {V : Type 0} (k : ℕ) → tool_at {V = V} k no_tools ≡ unused
none_there zero = refl
none_there (suc zero) = refl
none_there (suc (suc zero)) = refl
none_there (suc (suc (suc zero))) = refl
none_there (suc (suc (suc (suc zero)))) = refl
none_there (suc (suc (suc (suc (suc zero))))) = refl
none_there (suc (suc (suc (suc (suc (suc k)))))) = refl

none_wanted : {V : Type 0} (l : Location) → wants {V = V} no_tools l ≡ None
none_wanted {V = V} l =
    ap (λ (t : Tool V). if has_event t l && not (is_off l []) then callback t.callbacks l.bit else None) (none_there l.tool) ∙ either_way _ None

behind_append : {S N V W : Type 0} (ws vs : List Write) (x : Stride S N V W) → behind (ws ++ vs) x ≡ behind ws (behind vs x)
behind_append ws vs (B.goes us s) = ap (λ q. B.goes q s) (append_assoc ws vs us)
behind_append ws vs (B.ends us k e) = ap (λ q. B.ends q k e) (append_assoc ws vs us)
behind_append ws vs B.is_stuck = refl

module _ {S N V W : Type 0} (machine : Machine S V) (host : Host N V W) (n : ℕ) where
  abbrev pub solo : run.State S N V W → Session (Unit {0}) S N V W
  solo s = record { debugger = tt; state = s }

  -- behind these writes a run comes to a turn of its machine, or to its ending
  pub record Arrives (s : run.State S N V W) (ws : List Write) (b : B.State S N V W) : Type 0 where
    pub point : Point S N V W
    pub is_bare : bare point ≡ b
    pub plain : IsPlain point
    pub outputs : List (Output V)
    pub written : writes true outputs ≡ ws
    pub goes : Goes machine host nobody n (solo s) outputs (solo (stand turning point))

  pub record Stops (s : run.State S N V W) (ws : List Write) (u : ℕ) (e : Ending V W) : Type 0 where
    pub last : run.State S N V W
    pub outputs : List (Output V)
    pub written : writes true outputs ≡ ws
    pub goes : Goes machine host nobody n (solo s) outputs (solo last)
    pub units : last.units ≡ u
    pub frames : List (FrameView N V)
    pub stops : step machine host n last ≡ O.ends (ending_with frames e)

  pub data Leads (s : run.State S N V W) : Stride S N V W → Type 0 where
    to_turn : (ws : List Write) (b : B.State S N V W) → Arrives s ws b → Leads s (B.goes ws b)
    to_ending : (ws : List Write) (u : ℕ) (e : Ending V W) → Stops s ws u e → Leads s (B.ends ws u e)
    is_stuck : Leads s B.is_stuck

  pub arrives : (x : Point S N V W) → IsPlain x → Leads (stand turning x) (B.goes [] (bare x))
  arrives x p = to_turn [] (bare x) (record { point = x; is_bare = refl; plain = p; outputs = []; written = refl; goes = stays (solo (stand turning x)) })

  pub stopped : (s : run.State S N V W) (e : Ending V W) (fs : List (FrameView N V)) → step machine host n s ≡ O.ends (ending_with fs e) → Leads s (B.ends [] s.units e)
  stopped s e fs h = to_ending [] s.units e (record { last = s; outputs = []; written = refl; goes = stays (solo s); units = refl; frames = fs; stops = h })

  moved : (s t : run.State S N V W) (os : List (Output V)) (ws : List Write) (x : Stride S N V W) → move machine host nobody n (solo s) ≡ moves os (solo t)
      → writes true os ≡ ws → Leads t x → Leads s (behind ws x)
  moved s t os ws _ m w (to_turn vs b h) = to_turn (ws ++ vs) b (record {
    point = h.point;
    is_bare = h.is_bare;
    plain = h.plain;
    outputs = os ++ h.outputs;
    written = writes_append os h.outputs ∙ ap (λ q. q ++ writes true h.outputs) w ∙ ap (λ q. ws ++ q) h.written;
    goes = goes_further (solo s) (solo t) (solo (stand turning h.point)) os h.outputs m h.goes;
  })
  moved s t os ws _ m w (to_ending vs u e h) = to_ending (ws ++ vs) u e (record {
    last = h.last;
    outputs = os ++ h.outputs;
    written = writes_append os h.outputs ∙ ap (λ q. q ++ writes true h.outputs) w ∙ ap (λ q. ws ++ q) h.written;
    goes = goes_further (solo s) (solo t) (solo h.last) os h.outputs m h.goes;
    units = h.units;
    frames = h.frames;
    stops = h.stops;
  })
  moved s t os ws _ m w is_stuck = is_stuck

  behind_none : (x : Stride S N V W) → behind [] x ≡ x
  behind_none (B.goes ws s) = refl
  behind_none (B.ends ws u e) = refl
  behind_none B.is_stuck = refl

  unmoved : (s t : run.State S N V W) (os : List (Output V)) (x : Stride S N V W) → move machine host nobody n (solo s) ≡ moves os (solo t)
      → writes true os ≡ [] → Leads t x → Leads s x
  unmoved s t os x m w h = subst (λ z. Leads s z) (behind_none x) (moved s t os [] x m w h)

  -- by a step that writes this, and by one that writes nothing
  pub stepped : (s t : run.State S N V W) (os : List (Output V)) (ws : List Write) (x : Stride S N V W) → step machine host n s ≡ O.goes os t
      → writes true os ≡ ws → Leads t x → Leads s (behind ws x)
  stepped s t os ws x m w h = moved s t os ws x (ap (move_by machine host nobody tt) m) w h

  pub quiet : (s t : run.State S N V W) (os : List (Output V)) (x : Stride S N V W) → step machine host n s ≡ O.goes os t → writes true os ≡ [] → Leads t x → Leads s x
  quiet s t os x m w h = unmoved s t os x (ap (move_by machine host nobody tt) m) w h

  module _ (e : Event V) (bs : List (Happening V)) (p : Pending S V) (x : Point S N V W) (y : Stride S N V W) where
    abbrev asked : List Hook → run.State S N V W
    asked hs = stand (asking (record { event = e; hooks = hs; behind = bs; pending = p })) x

    nobody_asked : (b : Bool) (q : Question V) (t : Telling S V) (s : run.State S N V W) →
        move_by machine host nobody tt (if b then consults q t s else O.goes [] (at (asking t) s)) ≡ moves [] (solo (at (asking t) s))
    nobody_asked true q t s = refl
    nobody_asked false q t s = refl

    debugger_asked : (hs : List Hook) → Leads (asked hs) y → Leads (asked (debugger ∷ hs)) y
    debugger_asked hs h = unmoved _ _ [] y (nobody_asked (is_for_debugger e.what) _ _ _) refl h

    tool_asked : (k : ℕ) (hs : List Hook) → Leads (asked hs) y → Leads (asked (tool k ∷ hs)) y
    tool_asked k hs h =
        quiet _ _ [] y
        (ap (λ o. call_hook machine host o (tool k) hs (record { event = e; hooks = tool k ∷ hs; behind = bs; pending = p }) (asked (tool k ∷ hs)))
        (none_wanted (location machine host k e))) refl h

    tracer_asked : (hs : List Hook) → Leads (asked hs) y → Leads (asked (tracer ∷ hs)) y
    tracer_asked hs h =
        quiet _ _ [] y
        (ap (λ o. call_hook machine host o tracer hs (record { event = e; hooks = tracer ∷ hs; behind = bs; pending = p }) (asked (tracer ∷ hs)))
        (no_tracer (trace_kind e.what) x.here.frame)) refl h

    all_asked : (ws : List Write) → writes true (log_of host (trace_kind e.what) e x.world) ≡ ws → Leads (stand (telling bs p) x) y → Leads (asked all_hooks) (behind ws y)
    all_asked ws w h =
        stepped _ _ (log_of host (trace_kind e.what) e x.world) ws y refl w (debugger_asked _ (tool_asked 0 _ (tool_asked 1 _ (tool_asked 2 _ (tool_asked 3 _ (tool_asked 4 _
        (tool_asked 5 _ (tracer_asked [] (quiet _ _ [] y refl refl h)))))))))

  same_log : (k : Option TraceKind) (h : Happening V) (s : B.State S N V W) → writes true (log_of host k (B.event_of machine host h s) s.world) ≡ B.line_of_kind machine host k h s
  same_log (Some k) h s = refl
  same_log None h s = refl

  -- where its turn has come to be told
  abbrev pub turned : Happening V → Point S N V W → Point S N V W
  turned h x = at_world (world_behind host h x.here.frame x.world) x

  abbrev pub all_turned : List (Happening V) → Point S N V W → Point S N V W
  all_turned [] x = x
  all_turned (h ∷ hs) x = all_turned hs (turned h x)

  -- all that is logged of what is told
  abbrev pub all_logged : List (Happening V) → Point S N V W → List Write
  all_logged [] x = []
  all_logged (h ∷ hs) x = logged machine host h (bare (turned h x)) ++ all_logged hs (turned h x)

  none_logged : (hs : List (Happening V)) (x : Point S N V W) → x.here.frame.block.hidden ≡ true → all_logged hs x ≡ []
  none_logged [] x e = refl
  none_logged (h ∷ hs) x e = ap (λ q. q ++ all_logged hs (turned h x)) (if_true x.here.frame.block.hidden [] _ e) ∙ none_logged hs (turned h x) e

  loud : (h : Happening V) (x : Point S N V W) → x.here.frame.block.hidden ≡ false
      → writes true (log_of host (trace_kind h) (B.event_of machine host h (bare x)) x.world) ≡ logged machine host h (bare x)
  loud h x e = same_log (trace_kind h) h (bare x) ∙ sym (if_false x.here.frame.block.hidden [] _ e)

  -- what is told is logged, and then what waited goes on
  module _ (p : Pending S V) (y : Stride S N V W) where
    abbrev Proceeds : Point S N V W → Type 0
    Proceeds x = Leads (proceed machine host p (stand (telling [] p) x)) y

    told_loudly : (hs : List (Happening V)) (x : Point S N V W) → x.here.frame.block.hidden ≡ false → Proceeds (all_turned hs x) → Leads (stand (telling hs p) x) (behind (all_logged hs x) y)
    told_loudly [] x e h = stepped _ _ [] [] y refl refl h
    told_loudly (k ∷ hs) x e h =
        subst (λ z. Leads (stand (telling (k ∷ hs) p) x) z) (sym (behind_append (logged machine host k (bare (turned k x))) (all_logged hs (turned k x)) y))
        (quiet _ _ (O.gives _ ∷ []) _
        (if_false (is_silent (stand (telling (k ∷ hs) p) (turned k x))) _ _ (ap (λ b. b || hook_runs (openers_of x.waiters)) e ∙ no_hook x.waiters)) refl
        (all_asked (B.event_of machine host k (bare x)) hs p (turned k x) (behind (all_logged hs (turned k x)) y) (logged machine host k (bare (turned k x))) (loud k (turned k x) e) (told_loudly hs (turned k x) e h)))

    told_silently : (hs : List (Happening V)) (x : Point S N V W) → x.here.frame.block.hidden ≡ true → Proceeds (all_turned hs x) → Leads (stand (telling hs p) x) y
    told_silently [] x e h = quiet _ _ [] y refl refl h
    told_silently (k ∷ hs) x e h =
        quiet _ _ [] y (if_true (is_silent (stand (telling (k ∷ hs) p) (turned k x))) _ _ (ap (λ b. b || hook_runs (openers_of x.waiters)) e)) refl (told_silently hs (turned k x) e h)

    by_hidden : (b : Bool) (hs : List (Happening V)) (x : Point S N V W) → x.here.frame.block.hidden ≡ b → Proceeds (all_turned hs x) → Leads (stand (telling hs p) x) (behind (all_logged hs x) y)
    by_hidden false hs x e h = told_loudly hs x e h
    by_hidden true hs x e h =
        subst (λ ws. Leads (stand (telling hs p) x) (behind ws y)) (sym (none_logged hs x e)) (subst (λ z. Leads (stand (telling hs p) x) z) (sym (behind_none y)) (told_silently hs x e h))

    pub all_told : (hs : List (Happening V)) (x : Point S N V W) → Proceeds (all_turned hs x) → Leads (stand (telling hs p) x) (behind (all_logged hs x) y)
    all_told hs x h = by_hidden x.here.frame.block.hidden hs x refl h

    pub told : (k : Happening V) (x : Point S N V W) → Proceeds (turned k x) → Leads (stand (telling (k ∷ []) p) x) (behind (logged machine host k (bare (turned k x))) y)
    told k x h = subst (λ ws. Leads (stand (telling (k ∷ []) p) x) (behind ws y)) (append-nil (logged machine host k (bare (turned k x)))) (all_told (k ∷ []) x h)

  -- a block begins
  pub block_begins : (x : Point S N V W) → IsPlain x
      → Leads (stand (telling (starts ∷ []) (starting x.here.state)) x) (B.goes (logged machine host starts (bare x)) (bare x))
  block_begins x p =
      subst (λ ws. Leads (stand (telling (starts ∷ []) (starting x.here.state)) x) (B.goes ws (bare x))) (append-nil (logged machine host starts (bare x)))
      (told (starting x.here.state) (B.goes [] (bare x)) starts x (arrives x p))
