-- That a run does what transitions say.
use Rattle.std.specs.Prelude.{◌≡◌, ℕ, List, [], ◌∷◌}
use Rattle.sem_run.specs.run.Machine.{Machine}
use Rattle.sem_run.specs.run.Host.{Host, Store, Answering, Finding, Response}
use Rattle.sem_run.specs.run.State.{OpenAsk, OpenYield, of_ask, State, at, answering, store, with_store}
use Rattle.sem_run.specs.run.Views.{here_of, visible_line}
use Rattle.sem_run.specs.run.Outcome as O
use Rattle.sem_run.specs.run.Outcome.{goes, ends}
use Rattle.sem_run.specs.run.Requests.{perform}
use Rattle.sem_run.specs.run.Step.{step, stop_event, reply_to, begin_yield, do_ask}
use Rattle.sem_run.specs.transitions.Transitions as T
use Rattle.sem_run.specs.transitions.Transitions.{Transition, by_answer, of_open_ask}

module _ {S N V W : Type 0} (machine : Machine S V) (host : Host N V W) (n : ℕ) where
  -- the run goes on with a transition: what was printed, then the reply with what is told of it, the value that is given on, the
  -- request, or that the profile is left
  abbrev pub Does : Transition S N V W → State S N V W → Type 0
  Does (T.replies q r stop st) s =
      step machine host n s ≡ goes [] (reply_to machine host q r (stop_event stop) (with_store st s))
  Does (T.gives_on y v st) s = step machine host n s ≡ goes [] (begin_yield machine host y v (with_store st s))
  Does (T.prints t x) s = (s1 : State S N V W) × ((step machine host n s ≡ goes (O.prints t ∷ []) s1) × Does x s1)
  Does (T.leaves what) s = step machine host n s ≡ ends (O.outside what (visible_line host.first_line s))
  Does (T.requests r st k) s =
      (q : OpenAsk S V) × ((f : Response N V r → Store N W → Answering N V W (Finding V q.ask))
      × ((step machine host n s ≡ goes [] (perform machine host r (of_ask q f) (with_store st s)))
      × ((x : Response N V r) (st1 : Store N W) → k x st1 ≡ by_answer q (f x st1))))
  Does x s = ⊥

  -- an ask is begun: a value is given on at once, or the host's answer goes on
  pub data Begun (q : OpenAsk S V) (s : State S N V W) : Type 0 where
    by_yield : (y : OpenYield S V) (v : V) → of_open_ask host q (here_of machine s) (store s) ≡ T.gives_on y v (store s)
        → do_ask machine host q.ask q.next q.is_act q.callee s ≡ begin_yield machine host y v s → Begun q s
    by_host : (a : Answering N V W (Finding V q.ask)) → of_open_ask host q (here_of machine s) (store s) ≡ by_answer q a
        → do_ask machine host q.ask q.next q.is_act q.callee s ≡ at (answering q a) s → Begun q s

  abbrev pub AnswersAreDone : Type 0
  AnswersAreDone = (q : OpenAsk S V) (a : Answering N V W (Finding V q.ask)) (s : State S N V W) → Does (by_answer q a) (at (answering q a) s)

  abbrev pub AsksAreBegun : Type 0
  AsksAreBegun = (q : OpenAsk S V) (s : State S N V W) → Begun q s
