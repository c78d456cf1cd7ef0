-- Where nothing hooks in, each hook is passed, and what is told writes lines of the log alone.
use Rattle.std.proofs.Common.{◌≡◌, ℕ, Bool, true, false, if◌then◌else◌, List, [], ◌∷◌, ◌++◌, Option, Some, None, refl, ap, ◌∙◌}
use Rattle.sem_run.specs.run.Machine.{Machine}
use Rattle.sem_run.specs.run.Events.{Happening, Event, TraceKind, trace_kind, is_for_debugger}
use Rattle.sem_run.specs.run.Host.{Host, Hook, debugger, tool, tracer, Frame}
use Rattle.sem_run.specs.run.State.{Pending, Telling, State, telling, asking, at, is_silent}
use Rattle.sem_run.specs.run.Outcome as O
use Rattle.sem_run.specs.run.Outcome.{Output, gives, about, consults}
use Rattle.sem_run.specs.run.Hooks.{all_hooks, trace_due, log_of, event_of, enter_told, location, call_hook}
use Rattle.sem_run.specs.run.Step.{proceed, step, first_event}
use Rattle.sem_run.specs.run.Run.{Debugger, Session, moves, move_by, consult, view_of, Goes, stays, goes_further, prints_of}
use Rattle.law_telling.specs.Quiet.{IsQuiet, told_to, told, all_told}
use Rattle.law_telling.specs.Laws.{with_debugger, ReachesWhatWaits, PrintsNothing}

no_tracer : {N V : Type 0} (k : Option TraceKind) (f : Frame N V) → trace_due k None f ≡ None
no_tracer (Some k) f = refl
no_tracer None f = refl

module _ {D S N V W : Type 0} (machine : Machine S V) (host : Host N V W) (ask : Debugger D N V W)
    (n : ℕ) (d : D) where
  abbrev Goes_on : State S N V W → List (Output V) → Session D S N V W → Type 0
  Goes_on s os z = Goes machine host ask n (with_debugger d s) os z

  -- by a step that gives these, and by one that gives nothing
  by_step : (s t : State S N V W) (os ps : List (Output V)) (z : Session D S N V W)
      → step machine host n s ≡ O.goes os t → Goes_on t ps z → Goes_on s (os ++ ps) z
  by_step s t os ps z e g =
      goes_further (with_debugger d s) (with_debugger d t) z os ps
      (ap (move_by machine host ask d) e) g

  -- an event is told
  module _ (e : Event V) (bs : List (Happening V)) (p : Pending S V) (s : State S N V W)
      (quiet : IsQuiet ask d s) (ps : List (Output V)) (z : Session D S N V W) where
    abbrev of_hooks : List Hook → Telling S V
    of_hooks hs = record { event = e; hooks = hs; behind = bs; pending = p }

    abbrev asked : List Hook → State S N V W
    asked hs = at (asking (of_hooks hs)) s

    no_advice : (hooks hs : List Hook) (minds : Bool)
        → move_by machine host ask d
        (if minds then consults (about e) (of_hooks hs) (asked hooks) else O.goes [] (asked hs))
        ≡ moves [] (with_debugger d (asked hs))
    no_advice hooks hs true =
        ap (λ a. consult machine host ask a (of_hooks hs) (asked hooks))
        (quiet.no_debugger e (view_of machine host ask (asked hooks)))
    no_advice hooks hs false = refl

    debugger_passed : (hs : List Hook) → Goes_on (asked hs) ps z → Goes_on (asked (debugger ∷ hs)) ps z
    debugger_passed hs g =
        goes_further (with_debugger d (asked (debugger ∷ hs))) (with_debugger d (asked hs)) z [] ps
        (no_advice (debugger ∷ hs) hs (is_for_debugger e.what)) g

    tool_passed : (k : ℕ) (hs : List Hook) → Goes_on (asked hs) ps z
        → Goes_on (asked (tool k ∷ hs)) ps z
    tool_passed k hs g =
        by_step (asked (tool k ∷ hs)) (asked hs) [] ps z
        (ap (λ o. call_hook machine host o (tool k) hs (of_hooks (tool k ∷ hs)) (asked (tool k ∷ hs)))
        (quiet.no_tool (location machine host k e))) g

    tracer_passed : (hs : List Hook) → Goes_on (asked hs) ps z → Goes_on (asked (tracer ∷ hs)) ps z
    tracer_passed hs g =
        by_step (asked (tracer ∷ hs)) (asked hs) [] ps z
        (ap (λ o. call_hook machine host o tracer hs (of_hooks (tracer ∷ hs)) (asked (tracer ∷ hs)))
        (ap (λ o. trace_due (trace_kind e.what) o s.here.frame) quiet.no_trace
        ∙ no_tracer (trace_kind e.what) s.here.frame)) g

    all_passed : Goes_on (at (telling bs p) s) ps z
        → Goes_on (asked all_hooks) (log_of host (trace_kind e.what) e s.world ++ ps) z
    all_passed g =
        by_step (asked all_hooks) (asked _) (log_of host (trace_kind e.what) e s.world) ps z refl
        (debugger_passed _ (tool_passed 0 _ (tool_passed 1 _ (tool_passed 2 _ (tool_passed 3 _
        (tool_passed 4 _ (tool_passed 5 _ (tracer_passed [] (by_step (asked []) _ [] ps z refl g)))))))))

  -- what is told first
  tells_first : (h : Happening V) (hs : List (Happening V)) (p : Pending S V) (s : State S N V W)
      → IsQuiet ask d s → (ps : List (Output V)) (z : Session D S N V W) (silent : Bool)
      → is_silent s ≡ silent → Goes_on (at (telling hs p) s) ps z → (t : State S N V W)
      → step machine host n t
      ≡ (if silent then O.goes [] (at (telling hs p) s) else first_event machine host h hs p s)
      → Goes_on t
      ((if silent then [] else gives (event_of machine host h s)
      ∷ log_of host (trace_kind h) (event_of machine host h s) s.world) ++ ps) z
  tells_first h hs p s quiet ps z true e g t f = by_step t (at (telling hs p) s) [] ps z f g
  tells_first h hs p s quiet ps z false e g t f =
      let event = event_of machine host h s in
      by_step t _ (gives event ∷ []) (log_of host (trace_kind h) event s.world ++ ps) z f
      (all_passed event hs p s quiet ps z g)

  still_quiet : (h : Happening V) (s : State S N V W) → IsQuiet ask d s
      → IsQuiet ask d (enter_told machine host h s)
  still_quiet h s q = record {
    no_trace = q.no_trace;
    no_tool = q.no_tool;
    no_debugger = q.no_debugger;
  }

  tells : (hs : List (Happening V)) (p : Pending S V) (s : State S N V W) → IsQuiet ask d s
      → Goes_on (at (telling hs p) s) (all_told machine host hs s)
      (with_debugger d (proceed machine host p (at (telling [] p) (told_to machine host hs s))))
  tells [] p s quiet = by_step (at (telling [] p) s) _ [] [] _ refl (stays _)
  tells (h ∷ hs) p s quiet =
      let t = enter_told machine host h s in
      tells_first h hs p t (still_quiet h s quiet) (all_told machine host hs t) _ (is_silent t) refl
      (tells hs p t (still_quiet h s quiet)) (at (telling (h ∷ hs) p) s) refl

-- what is told is no print
module _ {V : Type 0} where
  none_behind : (os ps : List (Output V)) → prints_of os ≡ [] → prints_of ps ≡ []
      → prints_of (os ++ ps) ≡ []
  none_behind [] ps e f = f
  none_behind (O.prints x ∷ os) ps e f = absurd cc
  none_behind (O.begins b m ∷ os) ps e f = none_behind os ps e f
  none_behind (gives e' ∷ os) ps e f = none_behind os ps e f
  none_behind (O.logs x ∷ os) ps e f = none_behind os ps e f
  none_behind (O.replies x ∷ os) ps e f = none_behind os ps e f
  none_behind (O.refuses l r ∷ os) ps e f = none_behind os ps e f

module _ {S N V W : Type 0} (machine : Machine S V) (host : Host N V W) where
  no_print : (k : Option TraceKind) (e : Event V) (w : W) → prints_of (log_of host k e w) ≡ []
  no_print (Some k) e w = refl
  no_print None e w = refl

  one_prints_nothing : (h : Happening V) (s : State S N V W) (silent : Bool)
      → prints_of (if silent then [] else gives (event_of machine host h s)
      ∷ log_of host (trace_kind h) (event_of machine host h s) s.world) ≡ []
  one_prints_nothing h s true = refl
  one_prints_nothing h s false = no_print (trace_kind h) (event_of machine host h s) s.world

  print_nothing : (hs : List (Happening V)) (s : State S N V W)
      → prints_of (all_told machine host hs s) ≡ []
  print_nothing [] s = refl
  print_nothing (h ∷ hs) s =
      let t = enter_told machine host h s in
      none_behind (told machine host h t) (all_told machine host hs t)
      (one_prints_nothing h t (is_silent t)) (print_nothing hs t)

pub reaches_what_waits : {D S N V W : Type 0} (machine : Machine S V) (host : Host N V W)
    (ask : Debugger D N V W) (n : ℕ) (d : D) (s : State S N V W)
    → ReachesWhatWaits machine host ask n d s
reaches_what_waits machine host ask n d s quiet hs p = tells machine host ask n d hs p s quiet

pub prints_nothing : {S N V W : Type 0} (machine : Machine S V) (host : Host N V W)
    (s : State S N V W) → PrintsNothing machine host s
prints_nothing machine host s hs = print_nothing machine host hs s
