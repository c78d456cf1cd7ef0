-- Several steps of a run at once, from what it writes first to where it comes (Language Reference
-- 4.1). A question that a debugger doesn't mind is passed; at one that it minds they end.
use Rattle.std.specs.Prelude.{◌≡◌, ℕ, List, [], ◌++◌, Bool, true, false}
use Rattle.sem_run.specs.run.Machine.{Machine}
use Rattle.sem_run.specs.run.Events.{Event}
use Rattle.sem_run.specs.run.Host.{Host}
use Rattle.sem_run.specs.run.State.{Telling, State, asking, at}
use Rattle.sem_run.specs.run.Outcome.{Output, View, Question, about, goes, consults}
use Rattle.sem_run.specs.run.Step.{step}
use Rattle.sem_run.specs.run.Run.{Debugger, says_nothing}

-- what is minded of questions, by what is minded of events: what came of a jump always is
abbrev pub minded : {V : Type 0} → (minds : Event V → Bool) → Question V → Bool
minded minds (about e) = minds e
minded minds q = true

-- nobody minds anything
abbrev pub unminded : {V : Type 0} → Question V → Bool
unminded q = false

-- a debugger says nothing to what it doesn't mind, and lets the run go on
abbrev pub IgnoresUnminded : {D N V W : Type 0} → (minds : Question V → Bool) → Debugger D N V W
    → D → Type 0
IgnoresUnminded {N = N} {V = V} {W = W} minds ask d =
    (q : Question V) (v : View N V W) → minds q ≡ false → ask q v d ≡ says_nothing d

module _ {S N V W : Type 0} (machine : Machine S V) (host : Host N V W) (minds : Question V → Bool)
    (n : ℕ) where
  pub data Steps : State S N V W → List (Output V) → State S N V W → Type 0 where
    stays : (s : State S N V W) → Steps s [] s
    behind_step : (s t u : State S N V W) (os ps : List (Output V))
        → step machine host n s ≡ goes os t → Steps t ps u → Steps s (os ++ ps) u
    behind_question : (q : Question V) (t : Telling S V) (s z u : State S N V W)
        (ps : List (Output V)) → minds q ≡ false → step machine host n s ≡ consults q t z
        → Steps (at (asking t) z) ps u → Steps s ps u
