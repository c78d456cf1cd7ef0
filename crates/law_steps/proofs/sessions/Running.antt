-- Steps and advice are the run of a session.
use Rattle.std.proofs.Common.{◌≡◌, ℕ, Bool, List, [], ◌++◌, sym, ap, ◌∙◌, subst, append_assoc, append-nil}
use Rattle.sem_run.specs.run.Machine.{Machine}
use Rattle.sem_run.specs.run.Host.{Host}
use Rattle.sem_run.specs.run.State.{Telling, State}
use Rattle.sem_run.specs.run.Outcome as O
use Rattle.sem_run.specs.run.Outcome.{Output, Ending, Question}
use Rattle.sem_run.specs.run.Hooks.{take_advice}
use Rattle.sem_run.specs.run.Step.{step}
use Rattle.sem_run.specs.run.Run.{Debugger, Session, stops, move, move_by, move_by_advice, Comes, ends_so, Runs, Goes, stays, goes_further, reply_of}
use Rattle.sem_run.proofs.run.RunLemmas.{has_parts}
use Rattle.sem_steps.specs.Laws.{with_debugger}
use Rattle.sem_steps.proofs.Moves.{steps_are_moves}
use Rattle.law_steps.specs.sessions.Laws.{outcome, advised, EndsTheRun, GoesOnByAdvice, EndsByAdvice}

module _ {D S N V W : Type 0} (machine : Machine S V) (host : Host N V W) (minds : Question V → Bool)
    (n : ℕ) (ask : Debugger D N V W) where
  -- goes on and then goes on
  joined : (x y z : Session D S N V W) (os ps : List (Output V)) → Goes machine host ask n x os y
      → Goes machine host ask n y ps z → Goes machine host ask n x (os ++ ps) z
  joined _ _ z _ ps (stays x) g = g
  joined _ _ z _ ps (goes_further x w y os qs m f) g =
      subst (λ k. Goes machine host ask n x k z) (sym (append_assoc os qs ps))
      (goes_further x w z os (qs ++ ps) m (joined w y z qs ps f g))

  ends_at_once : (d : D) (t : State S N V W) (os : List (Output V)) (e : Ending N V W) (f : D)
      → move machine host ask n (with_debugger d t) ≡ stops os f e
      → Runs machine host ask n (with_debugger d t) (outcome os t.units e f)
  ends_at_once d t os e f m =
      subst (λ k. Comes machine host ask n t.units k (outcome os t.units e f))
      (sym m) (ends_so t.units os f e)

  to_end : EndsTheRun machine host minds n ask
  to_end d s t os e ignores g is =
      subst (λ k. Runs machine host ask n (with_debugger d s) (outcome k t.units e d)) (append-nil os)
      (has_parts machine host ask n (with_debugger d s) os (with_debugger d t) (outcome [] t.units e d)
      (steps_are_moves machine host minds n ask d ignores s t os g)
      (ends_at_once d t [] e d (ap (move_by machine host ask d) is)))

  -- the debugger's advice is taken
  advice_taken : (d : D) (t z : State S N V W) (q : Question V) (u : Telling S V) (a : O.Step S N V W)
      → step machine host n t ≡ O.consults q u z
      → take_advice machine host (advised machine host minds n ask q z d).advice u z ≡ a
      → move machine host ask n (with_debugger d t)
      ≡ move_by_advice machine host ask (reply_of (advised machine host minds n ask q z d).text) (advised machine host minds n ask q z d).debugger a
  advice_taken d t z q u a is e =
      ap (move_by machine host ask d) is
      ∙ ap (λ k. move_by_advice machine host ask (reply_of (advised machine host minds n ask q z d).text) (advised machine host minds n ask q z d).debugger k) e

  on_by_advice : GoesOnByAdvice machine host minds n ask
  on_by_advice d s t z v os ps q u ignores g is e =
      let a = advised machine host minds n ask q z d in
      joined (with_debugger d s) (with_debugger d t) (with_debugger a.debugger v) os (reply_of a.text ++ ps)
      (steps_are_moves machine host minds n ask d ignores s t os g)
      (subst (λ k. Goes machine host ask n (with_debugger d t) k (with_debugger a.debugger v))
      (append-nil (reply_of a.text ++ ps))
      (goes_further (with_debugger d t) (with_debugger a.debugger v) (with_debugger a.debugger v)
      (reply_of a.text ++ ps) [] (advice_taken d t z q u (O.goes ps v) is e) (stays (with_debugger a.debugger v))))

  end_by_advice : EndsByAdvice machine host minds n ask
  end_by_advice d s t z os q u e ignores g is h =
      let a = advised machine host minds n ask q z d in
      has_parts machine host ask n (with_debugger d s) os (with_debugger d t) (outcome (reply_of a.text) t.units e a.debugger)
      (steps_are_moves machine host minds n ask d ignores s t os g)
      (ends_at_once d t (reply_of a.text) e a.debugger (advice_taken d t z q u (O.ends e) is h))

pub ends_the_run : {D S N V W : Type 0} (machine : Machine S V) (host : Host N V W)
    (minds : Question V → Bool) (n : ℕ) (ask : Debugger D N V W)
    → EndsTheRun machine host minds n ask
ends_the_run machine host minds n ask = to_end machine host minds n ask

pub goes_on_by_advice : {D S N V W : Type 0} (machine : Machine S V) (host : Host N V W)
    (minds : Question V → Bool) (n : ℕ) (ask : Debugger D N V W)
    → GoesOnByAdvice machine host minds n ask
goes_on_by_advice machine host minds n ask = on_by_advice machine host minds n ask

pub ends_by_advice : {D S N V W : Type 0} (machine : Machine S V) (host : Host N V W)
    (minds : Question V → Bool) (n : ℕ) (ask : Debugger D N V W)
    → EndsByAdvice machine host minds n ask
ends_by_advice machine host minds n ask = end_by_advice machine host minds n ask
