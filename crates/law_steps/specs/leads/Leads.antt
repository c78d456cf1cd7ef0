-- Where an ask leads a run, by the successor that its answer has: that is how instructions tell what
-- they do. The reply is taken, with what is told of it; a value is given on; a text is printed; the
-- run does what is requested, and what waits goes on where the successor says; or the run leaves the
-- profile of the language (Language Reference 4.1, 6.2.9).
use Rattle.std.specs.Prelude.{◌≡◌, ℕ, Bool, List, [], ◌∷◌}
use Rattle.sem_control.specs.control.Turn.{Answer, Reply, got, raised}
use Rattle.sem_run.specs.run.Machine.{Machine}
use Rattle.sem_run.specs.run.Events.{Happening}
use Rattle.sem_run.specs.run.Host.{Host, Store, Response, Answering, Finding}
use Rattle.sem_run.specs.run.State.{OpenAsk, OpenYield, of_ask, State, with_store}
use Rattle.sem_run.specs.run.Views.{visible_line}
use Rattle.sem_run.specs.run.Outcome as O
use Rattle.sem_run.specs.run.Outcome.{Output, Question}
use Rattle.sem_run.specs.run.Requests.{perform}
use Rattle.sem_run.specs.run.Step.{step, reply_to, begin_yield}
use Rattle.sem_run.specs.transitions.Transitions.{by_answer}
use Rattle.sem_run.specs.transitions.Successors.{Successor, to, arises, behind_yield, behind_print, behind_request, outside, successor}
use Rattle.sem_steps.specs.Steps.{Steps}

module _ {S N V W : Type 0} (machine : Machine S V) (host : Host N V W) (minds : Question V → Bool)
    (n : ℕ) (q : OpenAsk S V) where
  abbrev Go : State S N V W → List (Output V) → State S N V W → Type 0
  Go = Steps machine host minds n

  abbrev pub Leads : Successor S N V W → State S N V W → Type 0
  Leads (to c st) t =
      (x : Answer V q.ask) × ((told : List (Happening V)) × ((q.next (got x) ≡ c)
      × Go t [] (reply_to machine host q (got x) told (with_store st t))))
  Leads (arises v c st) t =
      (q.next (raised v) ≡ c) × Go t [] (reply_to machine host q (raised v) [] (with_store st t))
  Leads (behind_yield v k st) t =
      (y : OpenYield S V) × (((r : Reply V V) → y.ask.next (y.reply r) ≡ k r)
      × Go t [] (begin_yield machine host y v (with_store st t)))
  Leads (behind_print x next) t =
      (u : State S N V W) × (Go t (O.prints x ∷ []) u × Leads next u)
  Leads (behind_request r st k) t =
      (f : Response N V r → Store N W → Answering N V W (Finding V q.ask))
      × (((x : Response N V r) (st1 : Store N W) → successor (by_answer q (f x st1)) ≡ k x st1)
      × Go t [] (perform machine host r (of_ask q f) (with_store st t)))
  Leads (outside what) t =
      step machine host n t ≡ O.ends (O.outside what (visible_line host.first_line t))
  Leads x t = ⊥
