-- What laws say of several steps at once.
use Rattle.std.specs.Prelude.{◌≡◌, ℕ, List, ◌++◌, Bool}
use Rattle.sem_run.specs.run.Machine.{Machine}
use Rattle.sem_run.specs.run.Events.{trace_kind}
use Rattle.sem_run.specs.run.Host.{Host, Hook}
use Rattle.sem_run.specs.run.State.{Telling, Hearing, State, telling, asking, hearing, at, store}
use Rattle.sem_run.specs.run.Views.{here_of}
use Rattle.sem_run.specs.run.Outcome as O
use Rattle.sem_run.specs.run.Outcome.{Output, Question}
use Rattle.sem_run.specs.run.Hooks.{log_of}
use Rattle.sem_run.specs.run.Step.{step}
use Rattle.sem_run.specs.run.Run.{Debugger, Session, Goes}
use Rattle.sem_steps.specs.Steps.{Steps, IgnoresUnminded}
use Rattle.sem_steps.specs.Asking.{Next, Asked, nobody, consulted, called, asked, due_in}

abbrev pub with_debugger : {D S N V W : Type 0} → D → State S N V W → Session D S N V W
with_debugger d s = record { debugger = d; state = s }

module _ {S N V W : Type 0} (machine : Machine S V) (host : Host N V W) (minds : Question V → Bool)
    (n : ℕ) where
  abbrev Go : State S N V W → List (Output V) → State S N V W → Type 0
  Go = Steps machine host minds n

  -- they are moves of a run, with each debugger that says nothing to what it doesn't mind
  abbrev pub StepsAreMoves : {D : Type 0} → Debugger D N V W → D → Type 0
  StepsAreMoves ask d =
      IgnoresUnminded minds ask d → (s t : State S N V W) (os : List (Output V)) → Go s os t
      → Goes machine host ask n (with_debugger d s) os (with_debugger d t)

  -- those that come behind others are steps with them
  abbrev pub StepsJoin : Type 0
  StepsJoin = (s t u : State S N V W) (os ps : List (Output V)) → Go s os t → Go t ps u
      → Go s (os ++ ps) u

  -- one step that goes on
  abbrev pub OneStepGoes : Type 0
  OneStepGoes = (s t : State S N V W) (os : List (Output V)) → step machine host n s ≡ O.goes os t
      → Go s os t

  -- an event with these hooks still to be asked
  abbrev pub with_hooks : List Hook → Telling S V → Telling S V
  with_hooks hs t = record t { hooks = hs }

  abbrev pub asking_these : List Hook → Telling S V → State S N V W → State S N V W
  asking_these hs t s = at (asking (with_hooks hs t)) s

  -- a hook's function is called
  abbrev pub heard : Hook → List Hook → Telling S V → Hearing S V
  heard h hs t = record { hook = h; telling = with_hooks hs t }

  abbrev pub calling : Hook → V → List Hook → Telling S V → State S N V W → State S N V W
  calling h f hs t s =
      at (hearing (heard h hs t) (host.hears h f t.event (here_of machine s) (store s))) s

  -- the run comes to who is asked next: what waits goes on, a debugger is consulted, a function is
  -- called
  abbrev pub ComesTo : Next V → List (Output V) → Telling S V → State S N V W → Type 0
  ComesTo nobody os t s = Go (at (asking t) s) os (at (telling t.behind t.pending) s)
  ComesTo (consulted q hs) os t s =
      (left : List Hook) × (Go (at (asking t) s) os (asking_these left t s)
      × (step machine host n (asking_these left t s)
      ≡ O.consults q (with_hooks hs t) (asking_these left t s)))
  ComesTo (called h f hs) os t s = Go (at (asking t) s) os (calling h f hs t s)

  abbrev pub asked_of : List Hook → Telling S V → State S N V W → Asked V
  asked_of hs t s =
      asked minds (log_of host (trace_kind t.event.what) t.event s.world)
      (due_in machine host t.event s) t.event hs

  abbrev pub AsksInOrder : Type 0
  AsksInOrder = (t : Telling S V) (s : State S N V W)
      → ComesTo (asked_of t.hooks t s).next (asked_of t.hooks t s).outputs t s
