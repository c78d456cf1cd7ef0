-- Steps are moves of a run.
use Rattle.std.proofs.Common.{◌≡◌, ℕ, Bool, List, [], ◌++◌, sym, ap, ◌∙◌, subst, append_assoc, append-nil}
use Rattle.sem_run.specs.run.Machine.{Machine}
use Rattle.sem_run.specs.run.Host.{Host}
use Rattle.sem_run.specs.run.State.{State, asking, at}
use Rattle.sem_run.specs.run.Outcome as O
use Rattle.sem_run.specs.run.Outcome.{Output, Question}
use Rattle.sem_run.specs.run.Step.{step}
use Rattle.sem_run.specs.run.Run as R
use Rattle.sem_run.specs.run.Run.{Debugger, move_by, consult, view_of, Goes}
use Rattle.sem_steps.specs.Steps.{Steps, stays, behind_step, behind_question, IgnoresUnminded}
use Rattle.sem_steps.specs.Laws.{with_debugger, StepsAreMoves, StepsJoin, OneStepGoes}

module _ {S N V W : Type 0} (machine : Machine S V) (host : Host N V W) (minds : Question V → Bool)
    (n : ℕ) where
  abbrev Go : State S N V W → List (Output V) → State S N V W → Type 0
  Go = Steps machine host minds n

  module _ {D : Type 0} (ask : Debugger D N V W) (d : D) (ignores : IgnoresUnminded minds ask d)
    where
      are_moves : (s t : State S N V W) (os : List (Output V)) → Go s os t
          → Goes machine host ask n (with_debugger d s) os (with_debugger d t)
      are_moves _ _ _ (stays s) = R.stays (with_debugger d s)
      are_moves _ _ _ (behind_step s t u os ps e g) =
          R.goes_further (with_debugger d s) (with_debugger d t) (with_debugger d u) os ps
          (ap (move_by machine host ask d) e) (are_moves t u ps g)
      are_moves _ _ _ (behind_question q t s z u ps m e g) =
          R.goes_further (with_debugger d s) (with_debugger d (at (asking t) z)) (with_debugger d u) []
          ps
          (ap (move_by machine host ask d) e
          ∙ ap (λ a. consult machine host ask a t z) (ignores q (view_of machine host ask z) m))
          (are_moves (at (asking t) z) u ps g)

  pub join : (s t u : State S N V W) (os ps : List (Output V)) → Go s os t → Go t ps u
      → Go s (os ++ ps) u
  join _ _ u _ ps (stays s) g = g
  join _ _ u _ ps (behind_step s r t os qs e f) g =
      subst (λ k. Go s k u) (sym (append_assoc os qs ps))
      (behind_step s r u os (qs ++ ps) e (join r t u qs ps f g))
  join _ _ u _ ps (behind_question q r s z t qs m e f) g =
      behind_question q r s z u (qs ++ ps) m e (join (at (asking r) z) t u qs ps f g)

  pub one : (s t : State S N V W) (os : List (Output V)) → step machine host n s ≡ O.goes os t
      → Go s os t
  one s t os e =
      subst (λ k. Go s k t) (append-nil os) (behind_step s t t os [] e (stays t))

pub steps_are_moves : {D S N V W : Type 0} (machine : Machine S V) (host : Host N V W)
    (minds : Question V → Bool) (n : ℕ) (ask : Debugger D N V W) (d : D)
    → StepsAreMoves machine host minds n ask d
steps_are_moves machine host minds n ask d ignores s t os g =
    are_moves machine host minds n ask d ignores s t os g

pub steps_join : {S N V W : Type 0} (machine : Machine S V) (host : Host N V W)
    (minds : Question V → Bool) (n : ℕ) → StepsJoin machine host minds n
steps_join machine host minds n s t u os ps f g = join machine host minds n s t u os ps f g

pub one_step_goes : {S N V W : Type 0} (machine : Machine S V) (host : Host N V W)
    (minds : Question V → Bool) (n : ℕ) → OneStepGoes machine host minds n
one_step_goes machine host minds n s t os e = one machine host minds n s t os e
