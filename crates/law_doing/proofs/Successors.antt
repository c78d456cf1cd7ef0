-- Where an ask leads doesn't depend on whether it is an act and what is called.
use Rattle.std.proofs.Common.{◌≡◌, ℕ, List, Bool, true, false, Option, Some, None, refl, ap}
use Rattle.sem_control.specs.control.Turn as T
use Rattle.sem_control.specs.control.Turn.{Ask, Answer, Reply, Mark}
use Rattle.sem_run.specs.run.Host as H
use Rattle.sem_run.specs.run.Host.{Host, Here, Store, Answering, Finding, Callee}
use Rattle.sem_run.specs.run.State as run
use Rattle.sem_run.specs.run.State.{OpenAsk, State, at}
use Rattle.sem_run.specs.run.Machine.{Machine}
use Rattle.sem_run.specs.run.Step.{do_ask}
use Rattle.sem_run.specs.transitions.Transitions.{by_answer, of_open_ask, transition}
use Rattle.sem_run.specs.transitions.Successors.{Successor, behind_print, behind_request, successor}

-- functions that answer alike are one
fun_ext : {A B : Type 0} {f g : A → B} → ((x : A) → f x ≡ g x) → f ≡ g
fun_ext h = λ i x. h x i

module _ {S V : Type 0} where
  abbrev pub ask_of : (a : Ask V) → (Reply V (Answer V a) → S) → Bool → Option (Callee V)
      → OpenAsk S V
  ask_of a k b c = record { ask = a; next = k; is_act = b; callee = c }

module _ {S N V W : Type 0} where
  module _ (b d : Bool) (c e : Option (Callee V)) where
    abbrev Alike : (a : Ask V) → (Reply V (Answer V a) → S) → Answering N V W (Finding V a) → Type 0
    Alike a k t = ◌≡◌ {A = Successor S N V W} (successor (by_answer (ask_of a k b c) t)) (successor (by_answer (ask_of a k d e) t))

    found : (a : Ask V) (k : Reply V (Answer V a) → S) (x : Finding V a) (st : Store N W)
        → Alike a k (H.answer x st)
    found (T.next_of i) k (H.an_item v) st = refl
    found (T.next_of i) k (H.no_item o) st = refl
    found (T.delegate i r) k (H.passes_on v) st = refl
    found (T.delegate i r) k (H.ends_with v) st = refl
    found (T.seek a) k v st = refl
    found (T.deed a) k v st = refl
    found (T.leave a) k v st = refl
    found (T.throw a) k v st = refl
    found (T.test a) k v st = refl
    found (T.iter_of a) k v st = refl
    found (T.enter a) k v st = refl
    found (T.unpack a m t) k v st = refl

    answered : (a : Ask V) (k : Reply V (Answer V a) → S) (t : Answering N V W (Finding V a))
        → Alike a k t
    answered a k (H.answer x st) = found a k x st
    answered a k (H.raise v st) = refl
    answered a k (H.print x f) = ap (λ l. behind_print x l) (answered a k f)
    answered a k (H.leave what) = refl
    answered a k (H.request r st f) =
        ap (λ l. behind_request r st l) (fun_ext (λ x. fun_ext (λ st1. answered a k (f x st1))))

    module _ (host : Host N V W) (h : Here V) (st : Store N W) where
      pub asked : (a : Ask V) (k : Reply V (Answer V a) → S)
          → ◌≡◌ {A = Successor S N V W} (successor (of_open_ask host (ask_of a k b c) h st)) (successor (of_open_ask host (ask_of a k d e) h st))
      asked (T.seek (T.yielding v)) k = refl
      asked (T.seek (T.const x)) k = answered (T.seek (T.const x)) k (host.answers (T.seek (T.const x)) h st)
      asked (T.seek (T.load x)) k = answered (T.seek (T.load x)) k (host.answers (T.seek (T.load x)) h st)
      asked (T.seek (T.operate o vs)) k = answered (T.seek (T.operate o vs)) k (host.answers (T.seek (T.operate o vs)) h st)
      asked (T.seek (T.cell_of x)) k = answered (T.seek (T.cell_of x)) k (host.answers (T.seek (T.cell_of x)) h st)
      asked (T.deed a) k = answered (T.deed a) k (host.answers (T.deed a) h st)
      asked (T.leave a) k = answered (T.leave a) k (host.answers (T.leave a) h st)
      asked (T.throw a) k = answered (T.throw a) k (host.answers (T.throw a) h st)
      asked (T.test a) k = answered (T.test a) k (host.answers (T.test a) h st)
      asked (T.iter_of v) k = answered (T.iter_of v) k (host.answers (T.iter_of v) h st)
      asked (T.next_of i) k = answered (T.next_of i) k (host.answers (T.next_of i) h st)
      asked (T.enter v) k = answered (T.enter v) k (host.answers (T.enter v) h st)
      asked (T.unpack v m t) k = answered (T.unpack v m t) k (host.answers (T.unpack v m t) h st)
      asked (T.delegate i r) k = answered (T.delegate i r) k (host.answers (T.delegate i r) h st)

  -- so is the successor of the turn
  pub turned : (host : Host N V W) (h : Here V) (st : Store N W) (q : OpenAsk S V) (m : Option Mark)
      → ◌≡◌ {A = Successor S N V W} (successor (transition host (T.act m q.ask q.next) h st)) (successor (of_open_ask host q h st))
  turned host h st q (Some m) = asked true q.is_act _ q.callee host h st q.ask q.next
  turned host h st q None = asked false q.is_act None q.callee host h st q.ask q.next

  -- an ask that is begun changes the phase alone
  module _ (machine : Machine S V) (host : Host N V W) where
    abbrev PhaseAlone : (a : Ask V) → (Reply V (Answer V a) → S) → Bool → Option (Callee V)
        → State S N V W → Type 0
    PhaseAlone a k b c s =
        do_ask machine host a k b c s ≡ at (do_ask machine host a k b c s).phase s

    pub phase-alone : (a : Ask V) (k : Reply V (Answer V a) → S) (b : Bool) (c : Option (Callee V))
        (s : State S N V W) → PhaseAlone a k b c s
    phase-alone (T.seek (T.yielding v)) k b c s = refl
    phase-alone (T.seek (T.const x)) k b c s = refl
    phase-alone (T.seek (T.load x)) k b c s = refl
    phase-alone (T.seek (T.operate o vs)) k b c s = refl
    phase-alone (T.seek (T.cell_of x)) k b c s = refl
    phase-alone (T.deed a) k b c s = refl
    phase-alone (T.leave a) k b c s = refl
    phase-alone (T.throw a) k b c s = refl
    phase-alone (T.test a) k b c s = refl
    phase-alone (T.iter_of v) k b c s = refl
    phase-alone (T.next_of i) k b c s = refl
    phase-alone (T.enter v) k b c s = refl
    phase-alone (T.unpack v m t) k b c s = refl
    phase-alone (T.delegate i r) k b c s = refl
