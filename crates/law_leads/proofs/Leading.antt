-- An ask leads a run to the successor that its answer has, and tells what ended an iterator.
use Rattle.std.proofs.Common.{◌≡◌, ℕ, Bool, List, [], ◌∷◌, Option, Some, None, refl}
use Rattle.sem_control.specs.control.Turn as T
use Rattle.sem_control.specs.control.Turn.{Ask, Answer, Reply, got}
use Rattle.sem_run.specs.run.Machine.{Machine}
use Rattle.sem_run.specs.run.Events.{Happening}
use Rattle.sem_run.specs.run.Host as H
use Rattle.sem_run.specs.run.Host.{Host, Here, Store, Finding, Callee}
use Rattle.sem_run.specs.run.State.{OpenAsk, State, answering, at, store, with_store}
use Rattle.sem_run.specs.run.Views.{here_of}
use Rattle.sem_run.specs.run.Outcome as O
use Rattle.sem_run.specs.run.Outcome.{Question}
use Rattle.sem_run.specs.run.Step.{step, stop_event, reply_to, do_ask}
use Rattle.sem_run.specs.transitions.Transitions.{by_answer, of_open_ask}
use Rattle.sem_run.specs.transitions.Successors.{successor}
use Rattle.sem_steps.specs.Steps.{Steps, stays, behind_step}
use Rattle.law_leads.specs.Leads.{ToldBy, FindsSo, AnswersSo, in_run, RepliesSo, Leads}
use Rattle.law_leads.specs.Laws.{AnswersLead, AsksLead}

module _ {C S N V W : Type 0} (machine : Machine S V) (host : Host N V W)
    (minds : Question V → Bool) (n : ℕ) (ends : Option V → Bool) (embed : C → S) where
  abbrev ask_of : (a : Ask V) → (Reply V (Answer V a) → C) → Bool → Option (Callee V) → OpenAsk C V
  ask_of a k b c = record { ask = a; next = k; is_act = b; callee = c }

  by_one : (s t : State S N V W) → step machine host n s ≡ O.goes [] t
      → Steps machine host minds n s [] t
  by_one s t e = behind_step s t t [] [] e (stays t)

  replied : (a : Ask V) (k : Reply V (Answer V a) → C) (b : Bool) (c : Option (Callee V))
      (x : Answer V a) (told : List (Happening V)) (st : Store N W) (t : State S N V W)
      → ToldBy ends a x told
      → step machine host n t ≡ O.goes [] (reply_to machine host (in_run embed (ask_of a k b c)) (got x) told (with_store st t))
      → RepliesSo machine host minds n ends embed (ask_of a k b c) (k (got x)) st t
  replied a k b c x told st t tells e = record {
    answer = x;
    leads = refl;
    told = told;
    tells = tells;
    goes = by_one _ _ e;
  }

  found : (a : Ask V) (k : Reply V (Answer V a) → C) (b : Bool) (c : Option (Callee V))
      (v : Finding V a) (st : Store N W) (s : State S N V W) → FindsSo ends a v
      → Leads machine host minds n ends embed (ask_of a k b c) (successor (by_answer (ask_of a k b c) (H.answer v st)))
      (at (answering (in_run embed (ask_of a k b c)) (H.answer v st)) s)
  found (T.next_of i) k b c (H.an_item v) st s z = replied (T.next_of i) k b c (Some v) [] st _ refl refl
  found (T.next_of i) k b c (H.no_item e) st s z = replied (T.next_of i) k b c None (stop_event e) st _ (e, (z, refl)) refl
  found (T.delegate i r) k b c (H.passes_on v) st s z =
      (record { ask = in_run embed (ask_of (T.delegate i r) k b c); reply = λ p. T.got (T.resumed p) }, (λ p. refl, by_one _ _ refl))
  found (T.delegate i r) k b c (H.ends_with v) st s z =
      replied (T.delegate i r) k b c (T.returned v) [] st _ refl refl
  found (T.seek a) k b c v st s z = replied (T.seek a) k b c v [] st _ refl refl
  found (T.deed a) k b c v st s z = replied (T.deed a) k b c v [] st _ refl refl
  found (T.leave a) k b c v st s z = replied (T.leave a) k b c v [] st _ refl refl
  found (T.throw a) k b c v st s z = replied (T.throw a) k b c v [] st _ refl refl
  found (T.test a) k b c v st s z = replied (T.test a) k b c v [] st _ refl refl
  found (T.iter_of a) k b c v st s z = replied (T.iter_of a) k b c v [] st _ refl refl
  found (T.enter a) k b c v st s z = replied (T.enter a) k b c v [] st _ refl refl
  found (T.unpack a m t) k b c v st s z = replied (T.unpack a m t) k b c v [] st _ refl refl

  pub leads : AnswersLead machine host minds n ends embed
  leads q (H.answer v st) s z = found q.ask q.next q.is_act q.callee v st s z
  leads q (H.raise v st) s z = (refl, by_one _ _ refl)
  leads q (H.print x f) s z =
      (answering (in_run embed q) f, (behind_step _ _ _ (O.prints x ∷ []) [] refl (stays _), leads q f s z))
  leads q (H.leave what) s z = refl
  leads q (H.request r st f) s z = (f, (λ x st1. refl, (z, by_one _ _ refl)))

  asked : (a : Ask V) (k : Reply V (Answer V a) → C) (b : Bool) (c : Option (Callee V))
      (s : State S N V W)
      → ((h : Here V) (st : Store N W) → AnswersSo ends a (host.answers a h st))
      → Leads machine host minds n ends embed (ask_of a k b c)
      (successor (of_open_ask host (ask_of a k b c) (here_of machine s) (store s)))
      (do_ask machine host a (λ r. embed (k r)) b c s)
  asked (T.seek (T.yielding v)) k b c s z =
      (record { ask = in_run embed (ask_of (T.seek (T.yielding v)) k b c); reply = λ r. r }, (λ p. refl, stays _))
  asked (T.seek (T.const x)) k b c s z =
      leads (ask_of (T.seek (T.const x)) k b c) (host.answers (T.seek (T.const x)) (here_of machine s) (store s)) s (z _ _)
  asked (T.seek (T.load x)) k b c s z =
      leads (ask_of (T.seek (T.load x)) k b c) (host.answers (T.seek (T.load x)) (here_of machine s) (store s)) s (z _ _)
  asked (T.seek (T.operate o vs)) k b c s z =
      leads (ask_of (T.seek (T.operate o vs)) k b c) (host.answers (T.seek (T.operate o vs)) (here_of machine s) (store s)) s (z _ _)
  asked (T.seek (T.cell_of x)) k b c s z =
      leads (ask_of (T.seek (T.cell_of x)) k b c) (host.answers (T.seek (T.cell_of x)) (here_of machine s) (store s)) s (z _ _)
  asked (T.deed d) k b c s z =
      leads (ask_of (T.deed d) k b c) (host.answers (T.deed d) (here_of machine s) (store s)) s (z _ _)
  asked (T.leave l) k b c s z =
      leads (ask_of (T.leave l) k b c) (host.answers (T.leave l) (here_of machine s) (store s)) s (z _ _)
  asked (T.throw t) k b c s z =
      leads (ask_of (T.throw t) k b c) (host.answers (T.throw t) (here_of machine s) (store s)) s (z _ _)
  asked (T.test t) k b c s z =
      leads (ask_of (T.test t) k b c) (host.answers (T.test t) (here_of machine s) (store s)) s (z _ _)
  asked (T.iter_of v) k b c s z =
      leads (ask_of (T.iter_of v) k b c) (host.answers (T.iter_of v) (here_of machine s) (store s)) s (z _ _)
  asked (T.next_of i) k b c s z =
      leads (ask_of (T.next_of i) k b c) (host.answers (T.next_of i) (here_of machine s) (store s)) s (z _ _)
  asked (T.enter v) k b c s z =
      leads (ask_of (T.enter v) k b c) (host.answers (T.enter v) (here_of machine s) (store s)) s (z _ _)
  asked (T.unpack v m t) k b c s z =
      leads (ask_of (T.unpack v m t) k b c) (host.answers (T.unpack v m t) (here_of machine s) (store s)) s (z _ _)
  asked (T.delegate i r) k b c s z =
      leads (ask_of (T.delegate i r) k b c) (host.answers (T.delegate i r) (here_of machine s) (store s)) s (z _ _)

pub answers_lead : {C S N V W : Type 0} (machine : Machine S V) (host : Host N V W)
    (minds : Question V → Bool) (n : ℕ) (ends : Option V → Bool) (embed : C → S) → AnswersLead machine host minds n ends embed
answers_lead machine host minds n ends embed q a s z = leads machine host minds n ends embed q a s z

pub asks_lead : {C S N V W : Type 0} (machine : Machine S V) (host : Host N V W)
    (minds : Question V → Bool) (n : ℕ) (ends : Option V → Bool) (embed : C → S) → AsksLead machine host minds n ends embed
asks_lead machine host minds n ends embed q s z =
    asked machine host minds n ends embed q.ask q.next q.is_act q.callee s z
