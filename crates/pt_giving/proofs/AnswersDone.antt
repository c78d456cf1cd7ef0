-- A run goes on with an answer as its transition says.
use Rattle.std.proofs.Common.{ℕ, Bool, Option, refl}
use Rattle.sem_control.specs.control.Turn as T
use Rattle.sem_control.specs.control.Turn.{Ask, Answer, Reply}
use Rattle.sem_run.specs.run.Machine.{Machine}
use Rattle.sem_run.specs.run.Host as H
use Rattle.sem_run.specs.run.Host.{Host, Store, Answering, Finding, Callee}
use Rattle.sem_run.specs.run.State.{OpenAsk, State, answering, at}
use Rattle.sem_run.specs.transitions.Transitions.{by_answer}
use Rattle.sem_run.specs.transitions.Laws.{Does, AnswersAreDone}

module _ {S N V W : Type 0} (machine : Machine S V) (host : Host N V W) (n : ℕ) where
  abbrev ask_of : (a : Ask V) → (Reply V (Answer V a) → S) → Bool → Option (Callee V)
      → OpenAsk S V
  ask_of a k b c = record { ask = a; next = k; is_act = b; callee = c }

  found : (a : Ask V) (k : Reply V (Answer V a) → S) (b : Bool) (c : Option (Callee V))
      (v : Finding V a) (st : Store N W) (s : State S N V W)
      → Does machine host n (by_answer (ask_of a k b c) (H.answer v st)) (at (answering (ask_of a k b c) (H.answer v st)) s)
  found (T.next_of i) k b c (H.an_item v) st s = refl
  found (T.next_of i) k b c (H.no_item e) st s = refl
  found (T.delegate i r) k b c (H.passes_on v) st s = refl
  found (T.delegate i r) k b c (H.ends_with v) st s = refl
  found (T.seek a) k b c v st s = refl
  found (T.deed a) k b c v st s = refl
  found (T.leave a) k b c v st s = refl
  found (T.throw a) k b c v st s = refl
  found (T.test a) k b c v st s = refl
  found (T.iter_of a) k b c v st s = refl
  found (T.enter a) k b c v st s = refl
  found (T.unpack a m t) k b c v st s = refl

  pub answers_done : AnswersAreDone machine host n
  answers_done q a s = by_form a s
    where
      by_form : (a : Answering N V W (Finding V q.ask)) (s : State S N V W)
          → Does machine host n (by_answer q a) (at (answering q a) s)
      by_form (H.answer v st) s = found q.ask q.next q.is_act q.callee v st s
      by_form (H.raise v st) s = refl
      by_form (H.print t f) s = (at (answering q f) s, (refl, by_form f s))
      by_form (H.leave what) s = refl
      by_form (H.request r st f) s = (q, (f, (refl, λ x st1. refl)))
