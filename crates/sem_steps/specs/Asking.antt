-- Who is asked next at an event that is told: the log has its line, a debugger is consulted where it
-- minds the event, and of the others those are called whose function is due (Library Reference,
-- `sys.settrace`, `sys.monitoring`).
use Rattle.std.specs.Prelude.{List, [], ◌∷◌, ◌++◌, Bool, true, false, ◌&&◌, Option, Some, None}
use Rattle.sem_run.specs.run.Machine.{Machine}
use Rattle.sem_run.specs.run.Events.{Event, trace_kind, is_for_debugger}
use Rattle.sem_run.specs.run.Tools.{wants}
use Rattle.sem_run.specs.run.Host as H
use Rattle.sem_run.specs.run.Host.{Host, Hook}
use Rattle.sem_run.specs.run.State.{State}
use Rattle.sem_run.specs.run.Outcome.{Output, Question, about, about_landing, about_refusal}
use Rattle.sem_run.specs.run.Hooks.{trace_due, location}

-- nobody is left to be asked; or a debugger is, or a function, and then these are
pub data Next (V : Type 0) : Type 0 where
  nobody : Next V
  consulted : (question : Question V) (behind : List Hook) → Next V
  called : (hook : Hook) (function : V) (behind : List Hook) → Next V

-- what is written before that
pub record Asked (V : Type 0) : Type 0 where
  pub outputs : List (Output V)
  pub next : Next V

module _ {V : Type 0} where
  abbrev pub asks : Next V → Asked V
  asks x = record { outputs = []; next = x }

  abbrev pub behind_log : List (Output V) → Asked V → Asked V
  behind_log os a = record a { outputs = os ++ a.outputs }

  abbrev pub if_minded : (is_minded : Bool) → Question V → List Hook → Asked V → Asked V
  if_minded true q hs a = asks (consulted q hs)
  if_minded false q hs a = a

  abbrev pub if_due : Option V → Hook → List Hook → Asked V → Asked V
  if_due (Some f) h hs a = asks (called h f hs)
  if_due None h hs a = a

-- of these hooks, by what is minded, the event's lines for the log, and the function that is due of
-- each hook
module _ {V : Type 0} (minds : Question V → Bool) (lines : List (Output V))
    (due : Hook → Option V) (e : Event V) where
  abbrev pub asked : List Hook → Asked V
  asked [] = asks nobody
  asked (H.log ∷ hs) = behind_log lines (asked hs)
  asked (H.debugger ∷ hs) =
      if_minded (is_for_debugger e.what && minds (about e)) (about e) hs (asked hs)
  asked (H.landing l ∷ hs) =
      if_minded (minds (about_landing l)) (about_landing l) hs (asked hs)
  asked (H.refusal r ∷ hs) =
      if_minded (minds (about_refusal r)) (about_refusal r) hs (asked hs)
  asked (H.tool k ∷ hs) = if_due (due (H.tool k)) (H.tool k) hs (asked hs)
  asked (H.tracer ∷ hs) = if_due (due H.tracer) H.tracer hs (asked hs)

-- the function of a hook that is due at an event in a run
module _ {S N V W : Type 0} (machine : Machine S V) (host : Host N V W) where
  abbrev pub due_in : Event V → State S N V W → Hook → Option V
  due_in e s (H.tool k) = wants s.tools (location machine host k e)
  due_in e s H.tracer = trace_due (trace_kind e.what) s.trace s.here.frame
  due_in e s h = None
