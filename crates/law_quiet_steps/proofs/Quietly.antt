-- Where nothing hooks in, what is told writes lines of the log alone.
use Rattle.std.proofs.Common.{◌≡◌, ℕ, Bool, true, false, ◌&&◌, if◌then◌else◌, List, [], ◌∷◌, ◌++◌, Option, Some, None, refl, ap, ◌∙◌, subst, append-nil}
use Rattle.sem_run.specs.run.Machine.{Machine}
use Rattle.sem_run.specs.run.Events.{Happening, TraceKind, trace_kind, is_for_debugger}
use Rattle.sem_run.specs.run.Tools.{wants}
use Rattle.sem_run.specs.run.Host as H
use Rattle.sem_run.specs.run.Host.{Host, Hook, Frame}
use Rattle.sem_run.specs.run.State.{Pending, Telling, State, telling, asking, at, is_silent}
use Rattle.sem_run.specs.run.Outcome as O
use Rattle.sem_run.specs.run.Outcome.{Output, gives, Question, about}
use Rattle.sem_run.specs.run.Hooks.{all_hooks, trace_due, location, log_of, event_of, enter_told}
use Rattle.sem_run.specs.run.Step.{proceed, step, first_event}
use Rattle.law_telling.specs.Quiet.{told_to, all_told}
use Rattle.sem_steps.specs.Steps.{Steps, stays, behind_step}
use Rattle.sem_steps.specs.Asking.{Asked, asks, behind_log, nobody, if_minded, if_due}
use Rattle.law_quiet_steps.specs.Quiet.{NothingHooksIn}
use Rattle.sem_steps.specs.Laws.{ComesTo, asked_of}
use Rattle.law_quiet_steps.specs.Laws.{TellsQuietly}
use Rattle.sem_steps.proofs.Moves.{join}
use Rattle.sem_steps.proofs.InOrder.{asks_in_order}

no_tracer : {N V : Type 0} (k : Option TraceKind) (f : Frame N V) → trace_due k None f ≡ None
no_tracer (Some k) f = refl
no_tracer None f = refl

-- those behind a debugger, from each of them on
abbrev from_tracer : List Hook
from_tracer = H.tracer ∷ []

abbrev from_5 : List Hook
from_5 = H.tool 5 ∷ from_tracer

abbrev from_4 : List Hook
from_4 = H.tool 4 ∷ from_5

abbrev from_3 : List Hook
from_3 = H.tool 3 ∷ from_4

abbrev from_2 : List Hook
from_2 = H.tool 2 ∷ from_3

abbrev from_1 : List Hook
from_1 = H.tool 1 ∷ from_2

abbrev from_0 : List Hook
from_0 = H.tool 0 ∷ from_1

-- nobody is asked whose function isn't due, nor a debugger that doesn't mind
module _ {V : Type 0} where
  unasked : (o : Option V) (h : Hook) (hs : List Hook) (a : Asked V) → o ≡ None
      → if_due o h hs a ≡ a
  unasked o h hs a e = ap (λ p. if_due p h hs a) e

  not_minded : (b c : Bool) (q : Question V) (hs : List Hook) (a : Asked V) → c ≡ false
      → if_minded (b && c) q hs a ≡ a
  not_minded true c q hs a e = ap (λ p. if_minded p q hs a) e
  not_minded false c q hs a e = refl

module _ {S N V W : Type 0} (machine : Machine S V) (host : Host N V W) (minds : Question V → Bool)
    (n : ℕ) where
  abbrev Go : State S N V W → List (Output V) → State S N V W → Type 0
  Go = Steps machine host minds n

  module _ (t : Telling S V) (s : State S N V W) (quiet : NothingHooksIn minds s) where
    abbrev of_these : List Hook → Asked V
    of_these hs = asked_of machine host minds n hs t s

    -- a tool, and the trace function
    tool_unasked : (k : ℕ) (hs : List Hook) → of_these (H.tool k ∷ hs) ≡ of_these hs
    tool_unasked k hs =
        unasked (wants s.tools (location machine host k t.event)) (H.tool k) hs (of_these hs)
        (quiet.no_tool (location machine host k t.event))

    tracer_unasked : (hs : List Hook) → of_these (H.tracer ∷ hs) ≡ of_these hs
    tracer_unasked hs =
        unasked (trace_due (trace_kind t.event.what) s.trace s.here.frame) H.tracer hs (of_these hs)
        (ap (λ o. trace_due (trace_kind t.event.what) o s.here.frame) quiet.no_trace
        ∙ no_tracer (trace_kind t.event.what) s.here.frame)

    debugger_unasked : (hs : List Hook) → of_these (H.debugger ∷ hs) ≡ of_these hs
    debugger_unasked hs =
        not_minded (is_for_debugger t.event.what) (minds (about t.event)) (about t.event) hs
        (of_these hs) (quiet.no_debugger t.event)

    all_unasked : of_these all_hooks
        ≡ behind_log (log_of host (trace_kind t.event.what) t.event s.world) (asks nobody)
    all_unasked =
        ap (behind_log (log_of host (trace_kind t.event.what) t.event s.world))
        (debugger_unasked from_0 ∙ tool_unasked 0 from_1 ∙ tool_unasked 1 from_2
        ∙ tool_unasked 2 from_3 ∙ tool_unasked 3 from_4 ∙ tool_unasked 4 from_5
        ∙ tool_unasked 5 from_tracer ∙ tracer_unasked [])

    passed : t.hooks ≡ all_hooks
        → Go (at (asking t) s) (log_of host (trace_kind t.event.what) t.event s.world)
        (at (telling t.behind t.pending) s)
    passed e =
        subst (λ os. Go (at (asking t) s) os (at (telling t.behind t.pending) s))
        (append-nil (log_of host (trace_kind t.event.what) t.event s.world))
        (subst (λ (a : Asked V). ComesTo machine host minds n a.next a.outputs t s)
        (ap of_these e ∙ all_unasked) (asks_in_order machine host minds n t s))

  -- what is told first
  tells_first : (h : Happening V) (hs : List (Happening V)) (p : Pending S V) (s : State S N V W)
      → NothingHooksIn minds s → (ps : List (Output V)) (z : State S N V W) (silent : Bool)
      → Go (at (telling hs p) s) ps z → (t : State S N V W)
      → step machine host n t
      ≡ (if silent then O.goes [] (at (telling hs p) s) else first_event machine host h hs p s)
      → Go t
      ((if silent then [] else gives (event_of machine host h s)
      ∷ log_of host (trace_kind h) (event_of machine host h s) s.world) ++ ps) z
  tells_first h hs p s quiet ps z true g t f = behind_step t (at (telling hs p) s) z [] ps f g
  tells_first h hs p s quiet ps z false g t f =
      let e = event_of machine host h s in
      let of_it : Telling S V = record { event = e; hooks = all_hooks; behind = hs; pending = p } in
      behind_step t (at (asking of_it) s) z (gives e ∷ [])
      (log_of host (trace_kind h) e s.world ++ ps) f
      (join machine host minds n (at (asking of_it) s) (at (telling hs p) s) z
      (log_of host (trace_kind h) e s.world) ps (passed of_it s quiet refl) g)

  still_quiet : (h : Happening V) (s : State S N V W) → NothingHooksIn minds s
      → NothingHooksIn minds (enter_told machine host h s)
  still_quiet h s q = record {
    no_trace = q.no_trace;
    no_tool = q.no_tool;
    no_debugger = q.no_debugger;
  }

  tells : (hs : List (Happening V)) (p : Pending S V) (s : State S N V W)
      → NothingHooksIn minds s → Go (at (telling hs p) s) (all_told machine host hs s)
      (proceed machine host p (at (telling [] p) (told_to machine host hs s)))
  tells [] p s quiet = behind_step (at (telling [] p) s) _ _ [] [] refl (stays _)
  tells (h ∷ hs) p s quiet =
      let t = enter_told machine host h s in
      tells_first h hs p t (still_quiet h s quiet) (all_told machine host hs t) _ (is_silent t)
      (tells hs p t (still_quiet h s quiet)) (at (telling (h ∷ hs) p) s) refl

pub tells_quietly : {S N V W : Type 0} (machine : Machine S V) (host : Host N V W)
    (minds : Question V → Bool) (n : ℕ) → TellsQuietly machine host minds n
tells_quietly machine host minds n s quiet hs p = tells machine host minds n hs p s quiet
