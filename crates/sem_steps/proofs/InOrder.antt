-- Those who are still to be asked at an event are asked in their order.
use Rattle.std.proofs.Common.{◌≡◌, ℕ, Bool, true, false, ◌&&◌, if◌then◌else◌, List, [], ◌∷◌, ◌++◌, Option, Some, None, refl}
use Rattle.sem_run.specs.run.Machine.{Machine}
use Rattle.sem_run.specs.run.Events.{trace_kind, is_for_debugger}
use Rattle.sem_run.specs.run.Tools.{wants}
use Rattle.sem_run.specs.run.Host as H
use Rattle.sem_run.specs.run.Host.{Host, Hook}
use Rattle.sem_run.specs.run.State.{Telling, State}
use Rattle.sem_run.specs.run.Outcome as O
use Rattle.sem_run.specs.run.Outcome.{Output, Question, about, about_landing, about_refusal}
use Rattle.sem_run.specs.run.Hooks.{trace_due, location, log_of, call_hook}
use Rattle.sem_run.specs.run.Step.{step}
use Rattle.sem_steps.specs.Steps.{stays, behind_step, behind_question}
use Rattle.sem_steps.specs.Asking.{Next, Asked, nobody, consulted, called, if_minded, if_due}
use Rattle.sem_steps.specs.Laws.{AsksInOrder, ComesTo, asked_of, with_hooks, asking_these, calling}
use Rattle.sem_steps.proofs.Moves.{one}

module _ {S N V W : Type 0} (machine : Machine S V) (host : Host N V W) (minds : Question V → Bool)
    (n : ℕ) (t : Telling S V) (s : State S N V W) where
  abbrev To : Asked V → List Hook → Type 0
  To a hs = ComesTo machine host minds n a.next a.outputs (with_hooks machine host minds n hs t) s

  abbrev these : List Hook → State S N V W
  these hs = asking_these machine host minds n hs t s

  abbrev asked_here : List Hook → Asked V
  asked_here hs = asked_of machine host minds n hs t s

  -- behind a step that passes one
  behind_one : (h : Hook) (hs : List Hook) (os : List (Output V)) (x : Next V)
      (ps : List (Output V)) → step machine host n (these (h ∷ hs)) ≡ O.goes os (these hs)
      → ComesTo machine host minds n x ps (with_hooks machine host minds n hs t) s
      → ComesTo machine host minds n x (os ++ ps) (with_hooks machine host minds n (h ∷ hs) t) s
  behind_one h hs os nobody ps e g = behind_step _ _ _ os ps e g
  behind_one h hs os (consulted q ks) ps e g =
      (g.0, (behind_step _ _ _ os ps e g.1.0, g.1.1))
  behind_one h hs os (called k f ks) ps e g = behind_step _ _ _ os ps e g

  -- and behind a question that isn't minded
  behind_unminded : (q : Question V) (h : Hook) (hs : List Hook) (x : Next V)
      (ps : List (Output V)) → minds q ≡ false
      → step machine host n (these (h ∷ hs)) ≡ O.consults q (with_hooks machine host minds n hs t) (these (h ∷ hs))
      → ComesTo machine host minds n x ps (with_hooks machine host minds n hs t) s
      → ComesTo machine host minds n x ps (with_hooks machine host minds n (h ∷ hs) t) s
  behind_unminded q h hs nobody ps m e g = behind_question q _ _ _ _ ps m e g
  behind_unminded q h hs (consulted r ks) ps m e g =
      (g.0, (behind_question q _ _ _ _ ps m e g.1.0, g.1.1))
  behind_unminded q h hs (called k f ks) ps m e g = behind_question q _ _ _ _ ps m e g

  -- a function that may be due
  by_function : (h : Hook) (hs : List Hook) (a : Asked V) (o : Option V)
      → step machine host n (these (h ∷ hs))
      ≡ call_hook machine host o h hs (with_hooks machine host minds n (h ∷ hs) t) (these (h ∷ hs))
      → To a hs → To (if_due o h hs a) (h ∷ hs)
  by_function h hs a (Some f) e g =
      one machine host minds n (these (h ∷ hs)) (calling machine host minds n h f hs (with_hooks machine host minds n (h ∷ hs) t) s) [] e
  by_function h hs a None e g = behind_one h hs [] a.next a.outputs e g

  -- a question that is put, if it is minded
  by_question : (q : Question V) (h : Hook) (hs : List Hook) (a : Asked V) (is_minded : Bool)
      → minds q ≡ is_minded
      → step machine host n (these (h ∷ hs)) ≡ O.consults q (with_hooks machine host minds n hs t) (these (h ∷ hs))
      → To a hs → To (if_minded is_minded q hs a) (h ∷ hs)
  by_question q h hs a true m e g = (h ∷ hs, (stays (these (h ∷ hs)), e))
  by_question q h hs a false m e g = behind_unminded q h hs a.next a.outputs m e g

  -- a debugger is asked at some events
  by_debugger : (hs : List Hook) (a : Asked V) (is_asked is_minded : Bool)
      → minds (about t.event) ≡ is_minded
      → step machine host n (these (H.debugger ∷ hs))
      ≡ (if is_asked then O.consults (about t.event) (with_hooks machine host minds n hs t) (these (H.debugger ∷ hs)) else O.goes [] (these hs))
      → To a hs → To (if_minded (is_asked && is_minded) (about t.event) hs a) (H.debugger ∷ hs)
  by_debugger hs a true b m e g = by_question (about t.event) H.debugger hs a b m e g
  by_debugger hs a false b m e g = behind_one H.debugger hs [] a.next a.outputs e g

  in_order : (hs : List Hook) → To (asked_here hs) hs
  in_order [] =
      one machine host minds n (these []) _ [] refl
  in_order (H.log ∷ hs) =
      behind_one H.log hs (log_of host (trace_kind t.event.what) t.event s.world)
      (asked_here hs).next (asked_here hs).outputs refl (in_order hs)
  in_order (H.debugger ∷ hs) =
      by_debugger hs (asked_here hs) (is_for_debugger t.event.what) (minds (about t.event)) refl refl
      (in_order hs)
  in_order (H.landing l ∷ hs) =
      by_question (about_landing l) (H.landing l) hs (asked_here hs) (minds (about_landing l)) refl
      refl (in_order hs)
  in_order (H.refusal r ∷ hs) =
      by_question (about_refusal r) (H.refusal r) hs (asked_here hs) (minds (about_refusal r)) refl
      refl (in_order hs)
  in_order (H.tool k ∷ hs) =
      by_function (H.tool k) hs (asked_here hs) (wants s.tools (location machine host k t.event))
      refl (in_order hs)
  in_order (H.tracer ∷ hs) =
      by_function H.tracer hs (asked_here hs)
      (trace_due (trace_kind t.event.what) s.trace s.here.frame) refl (in_order hs)

pub asks_in_order : {S N V W : Type 0} (machine : Machine S V) (host : Host N V W)
    (minds : Question V → Bool) (n : ℕ) → AsksInOrder machine host minds n
asks_in_order machine host minds n t s = in_order machine host minds n t s t.hooks
