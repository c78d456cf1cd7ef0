-- What steps and a debugger's advice come to as the run of a session: all that a machine has to tell
-- of itself, so that a loop over it runs as is said of runs.
use Rattle.std.specs.Prelude.{◌≡◌, ℕ, List, ◌++◌, Bool}
use Rattle.sem_run.specs.run.Machine.{Machine}
use Rattle.sem_run.specs.run.Host.{Host}
use Rattle.sem_run.specs.run.State.{Telling, State}
use Rattle.sem_run.specs.run.Outcome as O
use Rattle.sem_run.specs.run.Outcome.{Output, Ending, Question}
use Rattle.sem_run.specs.run.Hooks.{take_advice}
use Rattle.sem_run.specs.run.Step.{step}
use Rattle.sem_run.specs.run.Run.{Debugger, DebuggerAnswer, Outcome, Runs, Goes, reply_of, view_of}
use Rattle.sem_steps.specs.Steps.{Steps, IgnoresUnminded}
use Rattle.sem_steps.specs.Laws.{with_debugger}

-- an outcome with these outputs
abbrev pub outcome : {D N V W : Type 0} → List (Output V) → (units : ℕ) → Ending N V W → D
    → Outcome D N V W
outcome os u e d = record { outputs = os; units = u; ending = e; debugger = d }

module _ {D S N V W : Type 0} (machine : Machine S V) (host : Host N V W) (minds : Question V → Bool)
    (n : ℕ) (ask : Debugger D N V W) where
  abbrev Go : State S N V W → List (Output V) → State S N V W → Type 0
  Go = Steps machine host minds n

  -- what a debugger says to a question in a state
  abbrev pub advised : Question V → State S N V W → D → DebuggerAnswer D
  advised q z d = ask q (view_of machine host ask z) d

  -- steps behind which the run ends are its run
  abbrev pub EndsTheRun : Type 0
  EndsTheRun = (d : D) (s t : State S N V W) (os : List (Output V)) (e : Ending N V W)
      → IgnoresUnminded minds ask d → Go s os t → step machine host n t ≡ O.ends e
      → Runs machine host ask n (with_debugger d s) (outcome os t.units e d)

  -- behind a question that is minded the run goes on as the debugger advises, with its reply
  abbrev pub GoesOnByAdvice : Type 0
  GoesOnByAdvice = (d : D) (s t z v : State S N V W) (os ps : List (Output V)) (q : Question V)
      (u : Telling S V) → IgnoresUnminded minds ask d → Go s os t
      → step machine host n t ≡ O.consults q u z
      → take_advice machine host (advised q z d).advice u z ≡ O.goes ps v
      → Goes machine host ask n (with_debugger d s)
      (os ++ (reply_of (advised q z d).text ++ ps)) (with_debugger (advised q z d).debugger v)

  -- or ends
  abbrev pub EndsByAdvice : Type 0
  EndsByAdvice = (d : D) (s t z : State S N V W) (os : List (Output V)) (q : Question V)
      (u : Telling S V) (e : Ending N V W) → IgnoresUnminded minds ask d → Go s os t
      → step machine host n t ≡ O.consults q u z
      → take_advice machine host (advised q z d).advice u z ≡ O.ends e
      → Runs machine host ask n (with_debugger d s)
      (outcome (os ++ reply_of (advised q z d).text) t.units e (advised q z d).debugger)
