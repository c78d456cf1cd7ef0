-- An ask leads a run to the successor that its answer has.
use Rattle.std.proofs.Common.{◌≡◌, ℕ, Bool, [], ◌∷◌, Option, Some, None, refl}
use Rattle.sem_control.specs.control.Turn as T
use Rattle.sem_control.specs.control.Turn.{Ask, Answer, Reply}
use Rattle.sem_run.specs.run.Machine.{Machine}
use Rattle.sem_run.specs.run.Host as H
use Rattle.sem_run.specs.run.Host.{Host, Store, Finding, Callee}
use Rattle.sem_run.specs.run.State.{OpenAsk, State, answering, at, store}
use Rattle.sem_run.specs.run.Views.{here_of}
use Rattle.sem_run.specs.run.Outcome as O
use Rattle.sem_run.specs.run.Outcome.{Question}
use Rattle.sem_run.specs.run.Step.{step, stop_event, do_ask}
use Rattle.sem_run.specs.transitions.Transitions.{by_answer, of_open_ask}
use Rattle.sem_run.specs.transitions.Successors.{successor}
use Rattle.sem_steps.specs.Steps.{Steps, stays, behind_step}
use Rattle.law_steps.specs.leads.Leads.{Leads}
use Rattle.law_steps.specs.leads.Laws.{AnswersLead, AsksLead}

module _ {S N V W : Type 0} (machine : Machine S V) (host : Host N V W) (minds : Question V → Bool)
    (n : ℕ) where
  abbrev ask_of : (a : Ask V) → (Reply V (Answer V a) → S) → Bool → Option (Callee V) → OpenAsk S V
  ask_of a k b c = record { ask = a; next = k; is_act = b; callee = c }

  by_one : (s t : State S N V W) → step machine host n s ≡ O.goes [] t
      → Steps machine host minds n s [] t
  by_one s t e = behind_step s t t [] [] e (stays t)

  found : (a : Ask V) (k : Reply V (Answer V a) → S) (b : Bool) (c : Option (Callee V))
      (v : Finding V a) (st : Store N W) (s : State S N V W)
      → Leads machine host minds n (ask_of a k b c) (successor (by_answer (ask_of a k b c) (H.answer v st)))
      (at (answering (ask_of a k b c) (H.answer v st)) s)
  found (T.next_of i) k b c (H.an_item v) st s = (Some v, ([], (refl, by_one _ _ refl)))
  found (T.next_of i) k b c (H.no_item e) st s = (None, (stop_event e, (refl, by_one _ _ refl)))
  found (T.delegate i r) k b c (H.passes_on v) st s =
      (record { ask = ask_of (T.delegate i r) k b c; reply = λ p. T.got (T.resumed p) }, (λ p. refl, by_one _ _ refl))
  found (T.delegate i r) k b c (H.ends_with v) st s =
      (T.returned v, ([], (refl, by_one _ _ refl)))
  found (T.seek a) k b c v st s = (v, ([], (refl, by_one _ _ refl)))
  found (T.deed a) k b c v st s = (v, ([], (refl, by_one _ _ refl)))
  found (T.leave a) k b c v st s = (v, ([], (refl, by_one _ _ refl)))
  found (T.throw a) k b c v st s = (v, ([], (refl, by_one _ _ refl)))
  found (T.test a) k b c v st s = (v, ([], (refl, by_one _ _ refl)))
  found (T.iter_of a) k b c v st s = (v, ([], (refl, by_one _ _ refl)))
  found (T.enter a) k b c v st s = (v, ([], (refl, by_one _ _ refl)))
  found (T.unpack a m t) k b c v st s = (v, ([], (refl, by_one _ _ refl)))

  pub leads : AnswersLead machine host minds n
  leads q (H.answer v st) s = found q.ask q.next q.is_act q.callee v st s
  leads q (H.raise v st) s = (refl, by_one _ _ refl)
  leads q (H.print x f) s =
      (at (answering q f) s, (behind_step _ _ _ (O.prints x ∷ []) [] refl (stays _), leads q f s))
  leads q (H.leave what) s = refl
  leads q (H.request r st f) s = (f, (λ x st1. refl, by_one _ _ refl))

  asked : (a : Ask V) (k : Reply V (Answer V a) → S) (b : Bool) (c : Option (Callee V))
      (s : State S N V W)
      → Leads machine host minds n (ask_of a k b c)
      (successor (of_open_ask host (ask_of a k b c) (here_of machine s) (store s)))
      (do_ask machine host a k b c s)
  asked (T.seek (T.yielding v)) k b c s =
      (record { ask = ask_of (T.seek (T.yielding v)) k b c; reply = λ r. r }, (λ p. refl, stays _))
  asked (T.seek (T.const x)) k b c s =
      leads (ask_of (T.seek (T.const x)) k b c) (host.answers (T.seek (T.const x)) (here_of machine s) (store s)) s
  asked (T.seek (T.load x)) k b c s =
      leads (ask_of (T.seek (T.load x)) k b c) (host.answers (T.seek (T.load x)) (here_of machine s) (store s)) s
  asked (T.seek (T.operate o vs)) k b c s =
      leads (ask_of (T.seek (T.operate o vs)) k b c) (host.answers (T.seek (T.operate o vs)) (here_of machine s) (store s)) s
  asked (T.seek (T.cell_of x)) k b c s =
      leads (ask_of (T.seek (T.cell_of x)) k b c) (host.answers (T.seek (T.cell_of x)) (here_of machine s) (store s)) s
  asked (T.deed d) k b c s =
      leads (ask_of (T.deed d) k b c) (host.answers (T.deed d) (here_of machine s) (store s)) s
  asked (T.leave l) k b c s =
      leads (ask_of (T.leave l) k b c) (host.answers (T.leave l) (here_of machine s) (store s)) s
  asked (T.throw t) k b c s =
      leads (ask_of (T.throw t) k b c) (host.answers (T.throw t) (here_of machine s) (store s)) s
  asked (T.test t) k b c s =
      leads (ask_of (T.test t) k b c) (host.answers (T.test t) (here_of machine s) (store s)) s
  asked (T.iter_of v) k b c s =
      leads (ask_of (T.iter_of v) k b c) (host.answers (T.iter_of v) (here_of machine s) (store s)) s
  asked (T.next_of i) k b c s =
      leads (ask_of (T.next_of i) k b c) (host.answers (T.next_of i) (here_of machine s) (store s)) s
  asked (T.enter v) k b c s =
      leads (ask_of (T.enter v) k b c) (host.answers (T.enter v) (here_of machine s) (store s)) s
  asked (T.unpack v m t) k b c s =
      leads (ask_of (T.unpack v m t) k b c) (host.answers (T.unpack v m t) (here_of machine s) (store s)) s
  asked (T.delegate i r) k b c s =
      leads (ask_of (T.delegate i r) k b c) (host.answers (T.delegate i r) (here_of machine s) (store s)) s

pub answers_lead : {S N V W : Type 0} (machine : Machine S V) (host : Host N V W)
    (minds : Question V → Bool) (n : ℕ) → AnswersLead machine host minds n
answers_lead machine host minds n q a s = leads machine host minds n q a s

pub asks_lead : {S N V W : Type 0} (machine : Machine S V) (host : Host N V W)
    (minds : Question V → Bool) (n : ℕ) → AsksLead machine host minds n
asks_lead machine host minds n q s =
    asked machine host minds n q.ask q.next q.is_act q.callee s
