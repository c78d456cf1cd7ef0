-- Results go to what waits for them, in two steps: the activation closes, and the answer that waits
-- goes on.
use Rattle.std.proofs.Common.{◌≡◌, ℕ, Bool, List, [], ◌∷◌, Option, ap, ◌∙◌}
use Rattle.sem_control.specs.control.Turn.{Seek, Reply, End, gave, left_by}
use Rattle.sem_run.specs.run.Machine.{Machine}
use Rattle.sem_run.specs.run.Host as H
use Rattle.sem_run.specs.run.Host.{Host, Answering, Callee}
use Rattle.sem_run.specs.run.State.{OpenYield, Hearing, of_ask, of_hook, for_block, for_generator, Purpose}
use Rattle.sem_run.specs.run.State.{Opener, telling, giving_on, answering, hearing, closing, State, at, store}
use Rattle.sem_run.specs.run.Outcome as O
use Rattle.sem_run.specs.run.Outcome.{Question}
use Rattle.sem_run.specs.run.Step.{step, close, pass_result, give_on, give_on_for, take_answer, take_hearing, reply_to}
use Rattle.sem_steps.specs.Steps.{Steps, stays, behind_step}
use Rattle.law_steps.specs.returns.Returns.{given, reply_of, seeking, closed, ended, kept, heard_out}
use Rattle.law_steps.specs.returns.Laws.{answering_so, ReturnsToCall, ReturnsToHook, GivesOnToCall, EndsToCall}

module _ {S N V W : Type 0} (machine : Machine S V) (host : Host N V W) (minds : Question V → Bool)
    (n : ℕ) where
  abbrev Go : State S N V W → State S N V W → Type 0
  Go s t = Steps machine host minds n s [] t

  by_two : (s t u : State S N V W) → step machine host n s ≡ O.goes [] t
      → step machine host n t ≡ O.goes [] u → Go s u
  by_two s t u e f = behind_step s t u [] [] e (behind_step t u u [] [] f (stays u))

  -- an answer to an ask for a value is there
  replied : (a : Seek V) (k : Reply V V → S) (b : Bool) (c : Option (Callee V)) (e : End V)
      (s : State S N V W) (x : Answering N V W V) → x ≡ given e (store s)
      → step machine host n (at (answering (seeking a k b c) x) s)
      ≡ O.goes [] (reply_to machine host (seeking a k b c) (reply_of e) [] s)
  replied a k b c (gave v) s x e =
      ap (λ y. take_answer machine host (seeking a k b c) y (at (answering (seeking a k b c) x) s)) e
  replied a k b c (left_by v) s x e =
      ap (λ y. take_answer machine host (seeking a k b c) y (at (answering (seeking a k b c) x) s)) e

  -- so is a hook's
  answered : (h : Hearing S V) (e : End V) (s : State S N V W) (x : Answering N V W V)
      → x ≡ given e (store s)
      → step machine host n (at (hearing h x) s)
      ≡ O.goes [] (heard_out machine host e h (answering_so machine host minds n e h s))
  answered h (gave v) s x e =
      ap (λ y. take_hearing machine host h y (at (hearing h x) s)) e
      ∙ ap (λ y. O.goes [] (heard_out machine host (gave v) h (at (hearing h y) s))) e
  answered h (left_by v) s x e =
      ap (λ y. take_hearing machine host h y (at (hearing h x) s)) e
      ∙ ap (λ y. O.goes [] (heard_out machine host (left_by v) h (at (hearing h y) s))) e

  -- the newest activation closes
  closes : (e : End V) (o : Opener S N V W) (os : List (Opener S N V W)) (s : State S N V W)
      (p : Purpose S N V W) → o.purpose ≡ p → s.openers ≡ o ∷ os
      → step machine host n (at (closing e) s)
      ≡ O.goes [] (pass_result machine host p e o os (at (closing e) s))
  closes e o os s p q r =
      ap (λ ks. close machine host e ks (at (closing e) s)) r
      ∙ ap (λ k. O.goes [] (pass_result machine host k e o os (at (closing e) s))) q

  -- or gives a value on
  yields : (y : OpenYield S V) (v : V) (o : Opener S N V W) (os : List (Opener S N V W))
      (s : State S N V W) (p : Purpose S N V W) → o.purpose ≡ p → s.openers ≡ o ∷ os
      → step machine host n (at (telling [] (giving_on y v)) s)
      ≡ O.goes [] (give_on_for machine host p o os y v (at (telling [] (giving_on y v)) s))
  yields y v o os s p q r =
      ap (λ ks. O.goes [] (give_on machine host ks y v (at (telling [] (giving_on y v)) s))) r
      ∙ ap (λ k. O.goes [] (give_on_for machine host k o os y v (at (telling [] (giving_on y v)) s))) q

  to_call : ReturnsToCall machine host minds n
  to_call e a k b c f o os s is p r =
      by_two _ _ _ (closes e o os s (for_block (of_ask (seeking a k b c) f)) p r)
      (replied a k b c e (closed machine host o os s) (f (record { end = e; names = s.here.frame.names }) (store (closed machine host o os s)))
      (is (record { end = e; names = s.here.frame.names }) (store (closed machine host o os s))))

  to_hook : ReturnsToHook machine host minds n
  to_hook e h f o os s is p r =
      by_two _ _ _ (closes e o os s (for_block (of_hook h f)) p r)
      (answered h e (closed machine host o os s) (f (record { end = e; names = s.here.frame.names }) (store (closed machine host o os s)))
      (is (record { end = e; names = s.here.frame.names }) (store (closed machine host o os s))))

  on_to_call : GivesOnToCall machine host minds n
  on_to_call g y v a k b c f o os s is p r =
      by_two _ _ _ (yields y v o os s (for_generator g (of_ask (seeking a k b c) f)) p r)
      (replied a k b c (gave v) (kept machine host g y o os s) (f (H.gives_on v) (store (kept machine host g y o os s)))
      (is (store (kept machine host g y o os s))))

  ends_in_call : EndsToCall machine host minds n
  ends_in_call g v a k b c f end o os s is p r =
      by_two _ _ _ (closes (gave v) o os s (for_generator g (of_ask (seeking a k b c) f)) p r)
      (replied a k b c end (ended machine host g o os s) (f (H.ends_by (gave v)) (store (ended machine host g o os s)))
      (is (store (ended machine host g o os s))))

pub returns_to_call : {S N V W : Type 0} (machine : Machine S V) (host : Host N V W)
    (minds : Question V → Bool) (n : ℕ) → ReturnsToCall machine host minds n
returns_to_call machine host minds n e a k b c f o os s is p r =
    to_call machine host minds n e a k b c f o os s is p r

pub returns_to_hook : {S N V W : Type 0} (machine : Machine S V) (host : Host N V W)
    (minds : Question V → Bool) (n : ℕ) → ReturnsToHook machine host minds n
returns_to_hook machine host minds n e h f o os s is p r =
    to_hook machine host minds n e h f o os s is p r

pub gives_on_to_call : {S N V W : Type 0} (machine : Machine S V) (host : Host N V W)
    (minds : Question V → Bool) (n : ℕ) → GivesOnToCall machine host minds n
gives_on_to_call machine host minds n g y v a k b c f o os s is p r =
    on_to_call machine host minds n g y v a k b c f o os s is p r

pub ends_to_call : {S N V W : Type 0} (machine : Machine S V) (host : Host N V W)
    (minds : Question V → Bool) (n : ℕ) → EndsToCall machine host minds n
ends_to_call machine host minds n g v a k b c f end o os s is p r =
    ends_in_call machine host minds n g v a k b c f end o os s is p r
