-- Runs: at most one outcome, greater bounds, no halt, nothing told in hidden blocks and while a hook runs, and debuggers that only look.
use Rattle.std.proofs.Common.{◌≡◌, ℕ, ◌≤◌, ◌<◌, List, [], ◌∷◌, ◌++◌, Bool, true, false, Option, Some, None, refl, sym, ap, ◌∙◌, subst, ◌⊎◌, inl, inr, if◌then◌else◌, ◌||◌, append_assoc, arith}
use Rattle.std.specs.Prelude.{nat_lt}
use Rattle.std.proofs.lemmas.Bool.{lt-ltb, ltb-true}
use Rattle.sem_control.specs.control.Turn as T
use Rattle.sem_control.specs.control.Turn.{End, gave, left_by, Turn}
use Rattle.sem_run.specs.run.Machine.{BlockId, Machine, Jump, refuses, lands}
use Rattle.sem_run.specs.run.Events.{Happening, Event, is_for_debugger, TraceKind, trace_kind}
use Rattle.sem_run.specs.run.Host as H
use Rattle.sem_run.specs.run.Host.{Host, Hook, log, debugger, landing, refusal, tool, tracer, Answering, Finding}
use Rattle.sem_run.specs.run.State.{State, OpenAsk, Pending, Telling, Hearing, Opener, Phase, turning, telling, asking, answering, hearing, closing, hook_runs, is_silent, at}
use Rattle.sem_run.specs.run.Outcome as O
use Rattle.sem_run.specs.run.Outcome.{Output, Ending, spent, Question, Advice, go, jump_to, give_up, Step, goes, consults, ends, is_stuck}
use Rattle.sem_run.specs.run.Hooks.{enter_told, call_hook, log_of, ask_next, try_jump, take_advice}
use Rattle.sem_run.specs.run.Step.{begin_turn, take_answer, take_hearing, close, tell, by_phase, step}
use Rattle.sem_run.specs.run.Run.{DebuggerAnswer, Debugger, Session, Move, moves, stops, halts, move, move_by, move_by_advice, consult, reply_of, view_of, says_nothing, Outcome, outcome_behind, Comes, ends_so, goes_on, Runs, stays, goes_further, events, replies_apart, nobody}
use Rattle.sem_run.specs.run.Laws.{HasOneOutcome, Begins, so_far, further, OutcomesBeginSo, GoesOn, HasParts, NeverHalts, NeverStuck, PassesUnminded, outputs_of, GivesNothing, HidesBlocks, HidesHooks, OnlyLooks, alone, IsAsAlone}

module _ {D S N V W : Type 0} (machine : Machine S V) (host : Host N V W) (ask : Debugger D N V W) (n : ℕ) where
  one_outcome : (u : ℕ) (m : Move D S N V W) (o p : Outcome D N V W) → Comes machine host ask n u m o → Comes machine host ask n u m p → o ≡ p
  one_outcome u _ _ _ (ends_so _ os d e) (ends_so _ _ _ _) = refl
  one_outcome u _ _ _ (goes_on _ os x o h) (goes_on _ _ _ p k) = ap (outcome_behind os) (one_outcome x.state.units _ o p h k)

  pub runs_once : (x : Session D S N V W) → HasOneOutcome machine host ask n x
  runs_once x o p h k = one_outcome x.state.units _ o p h k

module _ {D S N V W : Type 0} (machine : Machine S V) (host : Host N V W) (ask : Debugger D N V W) (n : ℕ) where
  pub has_parts : (x : Session D S N V W) → HasParts machine host ask n x
  has_parts x _ _ o (stays _) c = c
  has_parts x _ z o (goes_further _ y _ os ps e g) c =
      subst (λ q. Runs machine host ask n x (record o { outputs = q })) (sym (append_assoc os ps o.outputs))
      (subst (λ m. Comes machine host ask n x.state.units m (outcome_behind os (outcome_behind ps o))) (sym e)
      (goes_on x.state.units os y (outcome_behind ps o) (has_parts y ps z o g c)))

module _ {D S N V W : Type 0} (machine : Machine S V) (host : Host N V W) (ask : Debugger D N V W) (n : ℕ) where
  begin_so : (u : ℕ) (m : Move D S N V W) (o : Outcome D N V W) (os : List (Output V)) → Comes machine host ask n u m o → Begins machine host ask n m os →
      (rest : List (Output V)) × (o.outputs ≡ os ++ rest)
  begin_so u _ o _ c (so_far m) = (o.outputs, refl)
  begin_so u _ _ _ (goes_on _ os x o c) (further _ ps _ b) =
      let (rest, e) = begin_so x.state.units _ o ps c b in (rest, ap (λ q. os ++ q) e ∙ sym (append_assoc os ps rest))

  pub outcomes_begin_so : (x : Session D S N V W) → OutcomesBeginSo machine host ask n x
  outcomes_begin_so x o os c b = begin_so x.state.units _ o os c b

-- the same step, or no other act may begin
data Wider {S N V W : Type 0} : Step S N V W → Step S N V W → Type 0 where
  alike : (x : Step S N V W) → Wider x x
  at_bound : (x : Step S N V W) → Wider (ends spent) x

data WiderMove {D S N V W : Type 0} : Move D S N V W → Move D S N V W → Type 0 where
  alike_move : (x : Move D S N V W) → WiderMove x x
  move_at_bound : (d : D) (x : Move D S N V W) → WiderMove (stops [] d spent) x

below_from : (a b : ℕ) → nat_lt a b ≡ true → a < b
below_from a b e = ltb-true a b e

below_true : (a b : ℕ) → a < b → nat_lt a b ≡ true
below_true a b h = lt-ltb a b h

module _ {S N V W : Type 0} where
  may_begin : (a b : Bool) → (a ≡ true → b ≡ true) → (x : Step S N V W) → Wider (if a then x else ends spent) (if b then x else ends spent)
  may_begin true true k x = alike x
  may_begin true false k x = let e = k refl in absurd cc
  may_begin false b k x = at_bound _

module _ {S N V W : Type 0} (machine : Machine S V) (host : Host N V W) (n m : ℕ) (h : n ≤ m) where
  bounded : (u : ℕ) → nat_lt u n ≡ true → nat_lt u m ≡ true
  bounded u e = let k = below_from u n e in below_true u m omega arith

  wider_turn : (t : Turn S V) (s : State S N V W) → Wider (begin_turn machine host n t s) (begin_turn machine host m t s)
  wider_turn (T.act (Some k) a f) s = may_begin (nat_lt s.units n) (nat_lt s.units m) (bounded s.units) _
  wider_turn (T.act None a f) s = alike _
  wider_turn (T.note a f) s = alike _
  wider_turn (T.move c) s = alike _
  wider_turn (T.over (gave v)) s = alike _
  wider_turn (T.over (left_by v)) s = alike _
  wider_turn T.stuck s = alike _

  wider_phase : (p : Phase S N V W) (s : State S N V W) → Wider (by_phase machine host n p s) (by_phase machine host m p s)
  wider_phase turning s = wider_turn (machine.turn s.here.frame.block s.here.state) s
  wider_phase (telling hs p) s = alike _
  wider_phase (asking t) s = alike _
  wider_phase (answering q a) s = alike _
  wider_phase (hearing q a) s = alike _
  wider_phase (closing e) s = alike _

module _ {D S N V W : Type 0} (machine : Machine S V) (host : Host N V W) (ask : Debugger D N V W) (n m : ℕ) (h : n ≤ m) where
  wider_move_by : (d : D) (x y : Step S N V W) → Wider x y → WiderMove (move_by machine host ask d x) (move_by machine host ask d y)
  wider_move_by d _ _ (alike x) = alike_move _
  wider_move_by d _ _ (at_bound x) = move_at_bound d _

  wider_move : (x : Session D S N V W) → WiderMove (move machine host ask n x) (move machine host ask m x)
  wider_move x = wider_move_by x.debugger _ _ (wider_phase machine host n m h x.state.phase x.state)

  Further : (u : ℕ) → Move D S N V W → Outcome D N V W → Type 0
  Further u x o = Comes machine host ask m u x o ⊎ ((o.ending ≡ spent) × Begins machine host ask m x o.outputs)

  behind : (u : ℕ) (os : List (Output V)) (x : Session D S N V W) (o : Outcome D N V W)
      → Further x.state.units (move machine host ask m x) o → Further u (moves os x) (outcome_behind os o)
  unfolding Further
  behind u os x o (inl c) = inl (goes_on u os x o c)
  behind u os x o (inr (e, b)) = inr (e, further os o.outputs x b)

  further_by : (u : ℕ) (x y : Move D S N V W) (o : Outcome D N V W) → WiderMove x y → Comes machine host ask n u x o → Further u y o
  unfolding Further
  further_by u _ _ _ (move_at_bound _ y) (ends_so _ _ d _) = inr (refl, so_far y)
  further_by u _ _ _ (alike_move _) (ends_so _ os d e) = inl (ends_so u os d e)
  further_by u _ _ _ (alike_move _) (goes_on _ os x o c) = behind u os x o (further_by x.state.units _ _ o (wider_move x) c)

module _ {D S N V W : Type 0} (machine : Machine S V) (host : Host N V W) (ask : Debugger D N V W) (n m : ℕ) where
  pub goes_on_from : (x : Session D S N V W) → GoesOn machine host ask n m x
  unfolding Further
  goes_on_from x o h c = further_by machine host ask n m h x.state.units _ _ o (wider_move machine host ask n m h x) c

-- no step is stuck but that of a machine that is
unfoldable pub NotStuck : {S N V W : Type 0} → Step S N V W → Type 0
NotStuck is_stuck = ⊥
NotStuck (goes os s) = Unit {0}
NotStuck (consults q t s) = Unit {0}
NotStuck (ends e) = Unit {0}

unfoldable pub NotHalted : {D S N V W : Type 0} → Move D S N V W → Type 0
NotHalted halts = ⊥
NotHalted (moves os x) = Unit {0}
NotHalted (stops os d e) = Unit {0}

IsAdvised : {S N V W : Type 0} → Step S N V W → Type 0
IsAdvised is_stuck = ⊥
IsAdvised (consults q t s) = ⊥
IsAdvised (goes os s) = Unit {0}
IsAdvised (ends e) = Unit {0}

module _ {S N V W : Type 0} where
  either_step : (b : Bool) (x y : Step S N V W) → NotStuck x → NotStuck y → NotStuck (if b then x else y)
  either_step true x y h k = h
  either_step false x y h k = k

module _ {S N V W : Type 0} (machine : Machine S V) (host : Host N V W) (n : ℕ) where
  turn_not_stuck : (t : Turn S V) (s : State S N V W) → (t ≡ T.stuck → ⊥) → NotStuck (begin_turn machine host n t s)
  unfolding NotStuck
  turn_not_stuck (T.act (Some k) a f) s h = either_step (nat_lt s.units n) _ _ tt tt
  turn_not_stuck (T.act None a f) s h = tt
  turn_not_stuck (T.note a f) s h = tt
  turn_not_stuck (T.move c) s h = tt
  turn_not_stuck (T.over (gave v)) s h = tt
  turn_not_stuck (T.over (left_by v)) s h = tt
  turn_not_stuck T.stuck s h = h refl

  call_not_stuck : (o : Option V) (k : Hook) (hs : List Hook) (t : Telling S V) (s : State S N V W) → NotStuck (call_hook machine host o k hs t s)
  unfolding NotStuck
  call_not_stuck (Some f) k hs t s = tt
  call_not_stuck None k hs t s = tt

  ask_not_stuck : (hs : List Hook) (t : Telling S V) (s : State S N V W) → NotStuck (ask_next machine host hs t s)
  unfolding NotStuck
  ask_not_stuck [] t s = tt
  ask_not_stuck (log ∷ hs) t s = tt
  ask_not_stuck (debugger ∷ hs) t s = either_step (is_for_debugger t.event.what) _ _ tt tt
  ask_not_stuck (landing l ∷ hs) t s = tt
  ask_not_stuck (refusal r ∷ hs) t s = tt
  ask_not_stuck (tool k ∷ hs) t s = call_not_stuck _ (tool k) hs t s
  ask_not_stuck (tracer ∷ hs) t s = call_not_stuck _ tracer hs t s

  answer_not_stuck : (q : OpenAsk S V) (a : Answering N V W (Finding V q.ask)) (s : State S N V W) → NotStuck (take_answer machine host q a s)
  unfolding NotStuck
  answer_not_stuck q (H.answer r st) s = tt
  answer_not_stuck q (H.raise v st) s = tt
  answer_not_stuck q (H.print x f) s = tt
  answer_not_stuck q (H.leave what) s = tt
  answer_not_stuck q (H.request r st f) s = tt

  hearing_not_stuck : (h : Hearing S V) (a : Answering N V W V) (s : State S N V W) → NotStuck (take_hearing machine host h a s)
  unfolding NotStuck
  hearing_not_stuck q (H.answer r st) s = tt
  hearing_not_stuck q (H.raise v st) s = tt
  hearing_not_stuck q (H.print x f) s = tt
  hearing_not_stuck q (H.leave what) s = tt
  hearing_not_stuck q (H.request r st f) s = tt

  close_not_stuck : (e : End V) (os : List (Opener S N V W)) (s : State S N V W) → NotStuck (close machine host e os s)
  unfolding NotStuck
  close_not_stuck e [] s = tt
  close_not_stuck e (o ∷ os) s = tt

  tell_not_stuck : (hs : List (Happening V)) (p : Pending S V) (s : State S N V W) → NotStuck (tell machine host hs p s)
  unfolding NotStuck
  tell_not_stuck [] p s = tt
  tell_not_stuck (h ∷ hs) p s = either_step (is_silent (enter_told machine host h s)) _ _ tt tt

  pub phase_not_stuck : (p : Phase S N V W) (s : State S N V W) → (p ≡ turning → machine.turn s.here.frame.block s.here.state ≡ T.stuck → ⊥) → NotStuck (by_phase machine host n p s)
  phase_not_stuck turning s h = turn_not_stuck _ s (h refl)
  phase_not_stuck (telling hs p) s h = tell_not_stuck hs p s
  phase_not_stuck (asking t) s h = ask_not_stuck t.hooks t s
  phase_not_stuck (answering q a) s h = answer_not_stuck q a s
  phase_not_stuck (hearing q a) s h = hearing_not_stuck q a s
  phase_not_stuck (closing e) s h = close_not_stuck e s.openers s

  jump_advised : (l : ℕ) (j : Jump S V) (t : Telling S V) (s : State S N V W) → IsAdvised (try_jump machine host l j t s)
  unfolding IsAdvised
  jump_advised l (refuses r) t s = tt
  jump_advised l (lands to c f) t s = tt

  all_advised : (a : Advice) (t : Telling S V) (s : State S N V W) → IsAdvised (take_advice machine host a t s)
  unfolding IsAdvised
  all_advised go t s = tt
  all_advised (jump_to l) t s = jump_advised l _ t s
  all_advised give_up t s = tt

module _ {D S N V W : Type 0} (machine : Machine S V) (host : Host N V W) (ask : Debugger D N V W) (n : ℕ) where
  advised_not_halted : (os : List (Output V)) (d : D) (x : Step S N V W) → IsAdvised x → NotHalted (move_by_advice machine host ask os d x)
  unfolding IsAdvised NotHalted
  advised_not_halted os d (goes ps s) h = tt
  advised_not_halted os d (ends e) h = tt
  advised_not_halted os d (consults q t s) h = h
  advised_not_halted os d is_stuck h = h

  pub not_halted : (d : D) (x : Step S N V W) → NotStuck x → NotHalted (move_by machine host ask d x)
  unfolding NotStuck NotHalted
  not_halted d (goes os s) h = tt
  not_halted d (consults q t s) h = advised_not_halted _ _ _ (all_advised machine host n _ t s)
  not_halted d (ends e) h = tt
  not_halted d is_stuck h = h

  pub halted : (x : Move D S N V W) → NotHalted x → x ≡ halts → ⊥
  unfolding NotHalted
  halted x h e = subst NotHalted e h

  pub never_halts : (x : Session D S N V W) → NeverStuck machine host ask n x → NeverHalts machine host ask n x
  never_halts x h os y g e = halted _ (not_halted y.debugger _ (phase_not_stuck machine host n y.state.phase y.state (λ p t. h os y g (p, t)))) e

  -- a move goes on or ends where the debugger isn't minded to hear of the event
  pub passes_unminded : (minds : D → Event V → Bool) (x : Session D S N V W) → PassesUnminded machine host ask minds n x
  passes_unminded minds x m e t s p f =
      ap (move_by machine host ask x.debugger) p ∙ ap (λ a. consult machine host ask a t s) (m x.debugger e f (view_of machine host ask s))

-- what holds of the outputs of each step
module _ {S N V W : Type 0} (machine : Machine S V) (host : Host N V W) (n : ℕ) (P : List (Output V) → Type 0) (none : P [])
    (begins : (b : BlockId) (m : T.Mark) → P (O.begins b m ∷ [])) (prints : (x : List ℕ) → P (O.prints x ∷ [])) (logs : (x : List ℕ) → P (O.logs x ∷ [])) where
  Each : Step S N V W → Type 0
  Each x = P (outputs_of x)

  each_either : (b : Bool) (x y : Step S N V W) → Each x → Each y → Each (if b then x else y)
  each_either true x y h k = h
  each_either false x y h k = k

  each_turn : (t : Turn S V) (s : State S N V W) → Each (begin_turn machine host n t s)
  unfolding Each
  each_turn (T.act (Some k) a f) s = each_either (nat_lt s.units n) _ _ (begins _ k) none
  each_turn (T.act None a f) s = none
  each_turn (T.note a f) s = none
  each_turn (T.move c) s = none
  each_turn (T.over (gave v)) s = none
  each_turn (T.over (left_by v)) s = none
  each_turn T.stuck s = none

  each_call : (o : Option V) (k : Hook) (hs : List Hook) (t : Telling S V) (s : State S N V W) → Each (call_hook machine host o k hs t s)
  unfolding Each
  each_call (Some f) k hs t s = none
  each_call None k hs t s = none

  each_log : (k : Option TraceKind) (t : Telling S V) (s z : State S N V W) → Each (goes (log_of host k t.event s.world) z)
  unfolding Each
  each_log (Some k) t s z = logs _
  each_log None t s z = none

  each_ask : (hs : List Hook) (t : Telling S V) (s : State S N V W) → Each (ask_next machine host hs t s)
  unfolding Each
  each_ask [] t s = none
  each_ask (log ∷ hs) t s = each_log (trace_kind t.event.what) t s (at (asking (record t { hooks = hs })) s)
  each_ask (debugger ∷ hs) t s = each_either (is_for_debugger t.event.what) _ _ none none
  each_ask (landing l ∷ hs) t s = none
  each_ask (refusal r ∷ hs) t s = none
  each_ask (tool k ∷ hs) t s = each_call _ (tool k) hs t s
  each_ask (tracer ∷ hs) t s = each_call _ tracer hs t s

  each_answer : (q : OpenAsk S V) (a : Answering N V W (Finding V q.ask)) (s : State S N V W) → Each (take_answer machine host q a s)
  unfolding Each
  each_answer q (H.answer r st) s = none
  each_answer q (H.raise v st) s = none
  each_answer q (H.print x f) s = prints x
  each_answer q (H.leave what) s = none
  each_answer q (H.request r st f) s = none

  each_hearing : (h : Hearing S V) (a : Answering N V W V) (s : State S N V W) → Each (take_hearing machine host h a s)
  unfolding Each
  each_hearing q (H.answer r st) s = none
  each_hearing q (H.raise v st) s = none
  each_hearing q (H.print x f) s = prints x
  each_hearing q (H.leave what) s = none
  each_hearing q (H.request r st f) s = none

  each_close : (e : End V) (os : List (Opener S N V W)) (s : State S N V W) → Each (close machine host e os s)
  unfolding Each
  each_close e [] s = none
  each_close e (o ∷ os) s = none

  each_phase : (p : Phase S N V W) (s : State S N V W) → ((hs : List (Happening V)) (q : Pending S V) → P (outputs_of (tell machine host hs q s))) → Each (by_phase machine host n p s)
  unfolding Each
  each_phase turning s h = each_turn _ s
  each_phase (telling hs p) s h = h hs p
  each_phase (asking t) s h = each_ask t.hooks t s
  each_phase (answering q a) s h = each_answer q a s
  each_phase (hearing q a) s h = each_hearing q a s
  each_phase (closing e) s h = each_close e s.openers s

  pub each_step : (s : State S N V W) → ((hs : List (Happening V)) (q : Pending S V) → P (outputs_of (tell machine host hs q s))) → P (outputs_of (step machine host n s))
  unfolding Each
  each_step s h = each_phase s.phase s h

-- nothing is told where a block is hidden, and while a hook runs
module _ {S N V W : Type 0} (machine : Machine S V) (host : Host N V W) where
  quiet_first : (b : Bool) (x y : Step S N V W) → b ≡ true → events (outputs_of x) ≡ [] → events (outputs_of (if b then x else y)) ≡ []
  quiet_first true x y e h = h
  quiet_first false x y e h = absurd cc

  quiet_tell : (s : State S N V W) → is_silent s ≡ true → (hs : List (Happening V)) (p : Pending S V) → events (outputs_of (tell machine host hs p s)) ≡ []
  quiet_tell s e [] p = refl
  quiet_tell s e (h ∷ hs) p = quiet_first (is_silent (enter_told machine host h s)) _ _ e refl

  silent_step : (n : ℕ) (s : State S N V W) → is_silent s ≡ true → GivesNothing machine host n s
  silent_step n s h = each_step machine host n (λ os. events os ≡ []) refl (λ b m. refl) (λ x. refl) (λ x. refl) s (quiet_tell s h)

  either_true : (a b : Bool) → b ≡ true → (a || b) ≡ true
  either_true true b e = refl
  either_true false b e = e

  pub hides_blocks : (n : ℕ) (s : State S N V W) → HidesBlocks machine host n s
  hides_blocks n s h = silent_step n s (ap (λ a. a || hook_runs s.openers) h)

  pub hides_hooks : (n : ℕ) (s : State S N V W) → HidesHooks machine host n s
  hides_hooks n s h = silent_step n s (either_true s.here.frame.block.hidden (hook_runs s.openers) h)

-- a step has no replies of a debugger
module _ {S N V W : Type 0} (machine : Machine S V) (host : Host N V W) where
  plain_either : (b : Bool) (x y : Step S N V W) → replies_apart (outputs_of x) ≡ outputs_of x → replies_apart (outputs_of y) ≡ outputs_of y
      → replies_apart (outputs_of (if b then x else y)) ≡ outputs_of (if b then x else y)
  plain_either true x y h k = h
  plain_either false x y h k = k

  plain_tell : (s : State S N V W) (hs : List (Happening V)) (p : Pending S V) → replies_apart (outputs_of (tell machine host hs p s)) ≡ outputs_of (tell machine host hs p s)
  plain_tell s [] p = refl
  plain_tell s (h ∷ hs) p = plain_either (is_silent (enter_told machine host h s)) _ _ refl refl

  plain_step : (n : ℕ) (s : State S N V W) → replies_apart (outputs_of (step machine host n s)) ≡ outputs_of (step machine host n s)
  plain_step n s = each_step machine host n (λ os. replies_apart os ≡ os) refl (λ b m. refl) (λ x. refl) (λ x. refl) s (plain_tell s)

-- a debugger that only looks
module _ {V : Type 0} where
  apart_append : (os ps : List (Output V)) → replies_apart (os ++ ps) ≡ replies_apart os ++ replies_apart ps
  apart_append [] ps = refl
  apart_append (O.replies x ∷ os) ps = apart_append os ps
  apart_append (O.begins b m ∷ os) ps = ap (◌∷◌ (O.begins b m)) (apart_append os ps)
  apart_append (O.prints x ∷ os) ps = ap (◌∷◌ (O.prints x)) (apart_append os ps)
  apart_append (O.gives e ∷ os) ps = ap (◌∷◌ (O.gives e)) (apart_append os ps)
  apart_append (O.logs x ∷ os) ps = ap (◌∷◌ (O.logs x)) (apart_append os ps)
  apart_append (O.refuses l r ∷ os) ps = ap (◌∷◌ (O.refuses l r)) (apart_append os ps)

  apart_reply : (x : Option (List ℕ)) → replies_apart (reply_of {V = V} x ++ []) ≡ []
  apart_reply (Some x) = refl
  apart_reply None = refl

-- a move of a run with a debugger that is one of these, and one without
data Beside {D S N V W P : Type 0} (debuggers : P → D) : Move D S N V W → Move (Unit {0}) S N V W → Type 0 where
  both_move : (os ps : List (Output V)) (p : P) (s : State S N V W) → replies_apart os ≡ ps
      → Beside debuggers (moves os (record { debugger = debuggers p; state = s })) (moves ps (record { debugger = tt; state = s }))
  both_stop : (os ps : List (Output V)) (d : D) (e : Ending N V W) → replies_apart os ≡ ps → Beside debuggers (stops os d e) (stops ps tt e)
  both_halt : Beside debuggers halts halts

module _ {D S N V W P : Type 0} (machine : Machine S V) (host : Host N V W) (ask : Debugger D N V W) (debuggers : P → D) (n : ℕ) (looks : OnlyLooks debuggers ask) where
  beside_consult : (a : DebuggerAnswer D) (t : Telling S V) (s : State S N V W) (r : P) → a.advice ≡ go → a.debugger ≡ debuggers r
      → Beside debuggers (consult machine host ask a t s) (consult machine host nobody (says_nothing tt) t s)
  beside_consult a t s r e f =
      subst (λ g. Beside debuggers (move_by_advice machine host ask (reply_of a.text) a.debugger (take_advice machine host g t s)) (consult machine host nobody (says_nothing tt) t s)) (sym e)
      (subst (λ d. Beside debuggers (move_by_advice machine host ask (reply_of a.text) d (take_advice machine host go t s)) (consult machine host nobody (says_nothing tt) t s)) (sym f)
      (both_move _ _ r _ (apart_reply a.text)))

  beside : (p : P) (x : Step S N V W) → replies_apart (outputs_of x) ≡ outputs_of x → Beside debuggers (move_by machine host ask (debuggers p) x) (move_by machine host nobody tt x)
  beside p (goes os s) h = both_move os os p s h
  beside p (consults q t s) h = let l = looks p q (view_of machine host ask s) in beside_consult (ask q _ (debuggers p)) t s l.1.0 l.0 l.1.1
  beside p (ends e) h = both_stop [] [] (debuggers p) e refl
  beside p is_stuck h = both_halt

  alone_behind : (u : ℕ) (os ps : List (Output V)) (s : State S N V W) (o : Outcome D N V W) → replies_apart os ≡ ps
      → Runs machine host nobody n (record { debugger = tt; state = s }) (alone o)
      → Comes machine host nobody n u (moves ps (record { debugger = tt; state = s })) (alone (outcome_behind os o))
  alone_behind u os ps s o e h =
      subst (λ q. Comes machine host nobody n u (moves ps (record { debugger = tt; state = s })) (record { outputs = q; units = o.units; ending = o.ending; debugger = tt }))
      (ap (λ q. q ++ replies_apart o.outputs) (sym e) ∙ sym (apart_append os o.outputs))
      (goes_on u ps (record { debugger = tt; state = s }) (alone o) h)

  comes_alone : (u : ℕ) (x : Move D S N V W) (y : Move (Unit {0}) S N V W) (o : Outcome D N V W) → Beside debuggers x y → Comes machine host ask n u x o → Comes machine host nobody n u y (alone o)
  comes_alone u _ _ _ (both_stop os ps d e h) (ends_so _ _ _ _) =
      subst (λ q. Comes machine host nobody n u (stops ps tt e) (record { outputs = q; units = u; ending = e; debugger = tt })) (sym h) (ends_so u ps tt e)
  comes_alone u _ _ _ (both_move os ps p s h) (goes_on _ _ _ o c) =
      alone_behind u os ps s o h (comes_alone s.units _ _ o (beside p (step machine host n s) (plain_step machine host n s)) c)
  comes_alone _ _ _ _ both_halt c = elim c [ ]

module _ {D S N V W P : Type 0} (machine : Machine S V) (host : Host N V W) (ask : Debugger D N V W) (debuggers : P → D) (n : ℕ) where
  pub is_as_alone : (x : Session D S N V W) → IsAsAlone machine host ask debuggers n x
  is_as_alone x looks p e o c =
      comes_alone machine host ask debuggers n looks x.state.units _ _ o
      (subst (λ d. Beside debuggers (move_by machine host ask d (step machine host n x.state)) (move_by machine host nobody tt (step machine host n x.state))) (sym e)
      (beside machine host ask debuggers n looks p _ (plain_step machine host n x.state))) c
