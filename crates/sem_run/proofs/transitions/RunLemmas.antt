-- A run does what transitions say.
use Rattle.std.proofs.Common.{◌≡◌, ℕ, refl, Bool, Option, Some, None}
use Rattle.sem_control.specs.control.Turn as T
use Rattle.sem_control.specs.control.Turn.{Ask, Answer, Reply}
use Rattle.sem_run.specs.run.Machine.{Machine}
use Rattle.sem_run.specs.run.Host as H
use Rattle.sem_run.specs.run.Host.{Host, Store, Answering, Finding, Callee}
use Rattle.sem_run.specs.run.State.{OpenAsk, State, at, answering, store}
use Rattle.sem_run.specs.run.Views.{here_of}
use Rattle.sem_run.specs.transitions.Transitions.{by_answer, by_finding, with_ask}
use Rattle.sem_run.specs.transitions.Laws.{Does, Begun, by_yield, by_host, AnswersAreDone, AsksAreBegun}

module _ {S N V W : Type 0} (machine : Machine S V) (host : Host N V W) (n : ℕ) where
  abbrev ask_of : (a : Ask V) → (Reply V (Answer V a) → S) → Bool → Option (Callee V) → OpenAsk S V
  ask_of a k b c = record { ask = a; next = k; is_act = b; callee = c }

  finding_done : (a : Ask V) (k : Reply V (Answer V a) → S) (b : Bool) (c : Option (Callee V)) (v : Finding V a) (st : Store N W)
      (s : State S N V W) → Does machine host n (by_answer (ask_of a k b c) (H.answer v st)) (at (answering (ask_of a k b c) (H.answer v st)) s)
  finding_done (T.next_of i) k b c (H.an_item v) st s = refl
  finding_done (T.next_of i) k b c (H.no_item e) st s = refl
  finding_done (T.delegate i r) k b c (H.passes_on v) st s = refl
  finding_done (T.delegate i r) k b c (H.ends_with v) st s = refl
  finding_done (T.seek a) k b c v st s = refl
  finding_done (T.deed a) k b c v st s = refl
  finding_done (T.leave a) k b c v st s = refl
  finding_done (T.throw a) k b c v st s = refl
  finding_done (T.test a) k b c v st s = refl
  finding_done (T.iter_of a) k b c v st s = refl
  finding_done (T.enter a) k b c v st s = refl
  finding_done (T.unpack a m t) k b c v st s = refl

  pub answers_done : AnswersAreDone machine host n
  answers_done q a s = by_form a s
    where
      by_form : (a : Answering N V W (Finding V q.ask)) (s : State S N V W) → Does machine host n (by_answer q a) (at (answering q a) s)
      by_form (H.answer v st) s = finding_done q.ask q.next q.is_act q.callee v st s
      by_form (H.raise v st) s = refl
      by_form (H.print t f) s = (at (answering q f) s, (refl, by_form f s))
      by_form (H.leave what) s = refl
      by_form (H.request r st f) s = (q, (f, (refl, λ x st1. refl)))

  asks_begun : (a : Ask V) (k : Reply V (Answer V a) → S) (b : Bool) (c : Option (Callee V)) (s : State S N V W) → Begun machine host n (ask_of a k b c) s
  asks_begun (T.seek (T.yielding v)) k b c s = by_yield (record { ask = ask_of (T.seek (T.yielding v)) k b c; reply = λ r. r }) v refl refl
  asks_begun (T.seek (T.const x)) k b c s = by_host (host.answers (T.seek (T.const x)) (here_of machine s) (store s)) refl refl
  asks_begun (T.seek (T.load x)) k b c s = by_host (host.answers (T.seek (T.load x)) (here_of machine s) (store s)) refl refl
  asks_begun (T.seek (T.operate o vs)) k b c s = by_host (host.answers (T.seek (T.operate o vs)) (here_of machine s) (store s)) refl refl
  asks_begun (T.seek (T.cell_of x)) k b c s = by_host (host.answers (T.seek (T.cell_of x)) (here_of machine s) (store s)) refl refl
  asks_begun (T.deed d) k b c s = by_host (host.answers (T.deed d) (here_of machine s) (store s)) refl refl
  asks_begun (T.leave l) k b c s = by_host (host.answers (T.leave l) (here_of machine s) (store s)) refl refl
  asks_begun (T.throw t) k b c s = by_host (host.answers (T.throw t) (here_of machine s) (store s)) refl refl
  asks_begun (T.test t) k b c s = by_host (host.answers (T.test t) (here_of machine s) (store s)) refl refl
  asks_begun (T.iter_of v) k b c s = by_host (host.answers (T.iter_of v) (here_of machine s) (store s)) refl refl
  asks_begun (T.next_of i) k b c s = by_host (host.answers (T.next_of i) (here_of machine s) (store s)) refl refl
  asks_begun (T.enter v) k b c s = by_host (host.answers (T.enter v) (here_of machine s) (store s)) refl refl
  asks_begun (T.unpack v m t) k b c s = by_host (host.answers (T.unpack v m t) (here_of machine s) (store s)) refl refl
  asks_begun (T.delegate i r) k b c s = by_host (host.answers (T.delegate i r) (here_of machine s) (store s)) refl refl

  pub all_begun : AsksAreBegun machine host n
  all_begun q s = asks_begun q.ask q.next q.is_act q.callee s
