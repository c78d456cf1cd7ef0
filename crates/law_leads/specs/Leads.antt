-- Where an ask leads a run, by the successor that its answer has, and what is told of its reply by
-- the answer: of an iterator at its end the exception that told so, if one did, and else nothing. So
-- a machine that knows where an instruction leads knows what a run tells there (Language Reference
-- 4.1, 6.2.9, 8.3).
use Rattle.std.specs.Prelude.{◌≡◌, ℕ, Bool, true, List, [], ◌∷◌, Option, Some, None}
use Rattle.sem_control.specs.control.Turn as T
use Rattle.sem_control.specs.control.Turn.{Ask, Answer, Reply, got, raised, End, gave, left_by}
use Rattle.sem_run.specs.run.Machine.{Machine}
use Rattle.sem_run.specs.run.Events.{Happening}
use Rattle.sem_run.specs.run.Host as H
use Rattle.sem_run.specs.run.Host.{Host, Store, Request, opens, resumes, ends_by, Response, Answering, Finding}
use Rattle.sem_run.specs.run.State.{OpenAsk, OpenYield, of_ask, Phase, State, at, with_store}
use Rattle.sem_run.specs.run.Views.{visible_line}
use Rattle.sem_run.specs.run.Outcome as O
use Rattle.sem_run.specs.run.Outcome.{Output, Question}
use Rattle.sem_run.specs.run.Requests.{perform}
use Rattle.sem_run.specs.run.Step.{step, stop_event, reply_to, begin_yield}
use Rattle.sem_run.specs.transitions.Transitions.{by_answer}
use Rattle.sem_run.specs.transitions.Successors.{Successor, to, arises, behind_yield, behind_print, behind_request, outside, successor}
use Rattle.sem_steps.specs.Steps.{Steps}

-- the exception by which a block was left, and by which so was what was requested
abbrev pub left_with : {V : Type 0} → End V → Option V
left_with (gave v) = None
left_with (left_by v) = Some v

abbrev pub left_behind : {N V : Type 0} → (r : Request N V) → Response N V r → Option V
left_behind (opens o) x = left_with x.end
left_behind (resumes g h) (ends_by e) = left_with e
left_behind r x = None

-- an iterator is ended by this exception, or by itself
abbrev pub FindsWith : {V : Type 0} → Option V → (a : Ask V) → Finding V a → Type 0
FindsWith stop (T.next_of i) (H.no_item e) = e ≡ stop
FindsWith stop a x = Unit {0}

-- whether an exception may have ended an iterator, or none, where that was at its end by itself
module _ {V : Type 0} (ends : Option V → Bool) where
  -- what is told of an answer before what control tells of it
  abbrev pub ToldBy : (a : Ask V) → Answer V a → List (Happening V) → Type 0
  ToldBy (T.next_of i) None told = (e : Option V) × ((ends e ≡ true) × (told ≡ stop_event e))
  ToldBy a x told = told ≡ []

  abbrev pub FindsSo : (a : Ask V) → Finding V a → Type 0
  FindsSo (T.next_of i) (H.no_item e) = ends e ≡ true
  FindsSo a x = Unit {0}

module _ {N V W : Type 0} where
  -- so ends an answer in the making, behind what was left by this exception
  abbrev pub EndsWith : (a : Ask V) → Option V → Answering N V W (Finding V a) → Type 0
  EndsWith a stop (H.answer x st) = FindsWith stop a x
  EndsWith a stop (H.raise v st) = Unit {0}
  EndsWith a stop (H.print t f) = EndsWith a stop f
  EndsWith a stop (H.leave what) = Unit {0}
  EndsWith a stop (H.request r st f) =
      (x : Response N V r) (st1 : Store N W) → EndsWith a (left_behind r x) (f x st1)

module _ {N V W : Type 0} (ends : Option V → Bool) where
  -- and so one that has requested nothing yet
  abbrev pub AnswersSo : (a : Ask V) → Answering N V W (Finding V a) → Type 0
  AnswersSo a (H.answer x st) = FindsSo ends a x
  AnswersSo a (H.raise v st) = Unit {0}
  AnswersSo a (H.print t f) = AnswersSo a f
  AnswersSo a (H.leave what) = Unit {0}
  AnswersSo a (H.request r st f) =
      (x : Response N V r) (st1 : Store N W) → EndsWith a (left_behind r x) (f x st1)

-- an ask whose reply goes on in states that are parts of others, as those of code are of a machine's
abbrev pub in_run : {C S V : Type 0} → (C → S) → OpenAsk C V → OpenAsk S V
in_run embed q = record {
  ask = q.ask;
  next = λ r. embed (q.next r);
  is_act = q.is_act;
  callee = q.callee;
}

module _ {C S N V W : Type 0} (machine : Machine S V) (host : Host N V W)
    (minds : Question V → Bool) (n : ℕ) (ends : Option V → Bool) (embed : C → S)
    (q : OpenAsk C V) where
  abbrev asked : OpenAsk S V
  asked = in_run embed q

  abbrev Go : State S N V W → List (Output V) → State S N V W → Type 0
  Go = Steps machine host minds n

  -- the reply is taken that leads to this state
  pub record RepliesSo (c : C) (st : Store N W) (t : State S N V W) : Type 0 where
    pub answer : Answer V q.ask
    pub leads : q.next (got answer) ≡ c
    pub told : List (Happening V)
    pub tells : ToldBy ends q.ask answer told
    pub goes : Go t [] (reply_to machine host asked (got answer) told (with_store st t))

  abbrev pub Leads : Successor C N V W → State S N V W → Type 0
  Leads (to c st) t = RepliesSo c st t
  Leads (arises v c st) t =
      (q.next (raised v) ≡ c) × Go t [] (reply_to machine host asked (raised v) [] (with_store st t))
  Leads (behind_yield v k st) t =
      (y : OpenYield S V) × (((r : Reply V V) → y.ask.next (y.reply r) ≡ embed (k r))
      × Go t [] (begin_yield machine host y v (with_store st t)))
  Leads (behind_print x next) t =
      (p : Phase S N V W) × (Go t (O.prints x ∷ []) (at p t) × Leads next (at p t))
  Leads (behind_request r st k) t =
      (f : Response N V r → Store N W → Answering N V W (Finding V q.ask))
      × (((x : Response N V r) (st1 : Store N W) → successor (by_answer q (f x st1)) ≡ k x st1)
      × (((x : Response N V r) (st1 : Store N W) → EndsWith q.ask (left_behind r x) (f x st1))
      × Go t [] (perform machine host r (of_ask asked f) (with_store st t))))
  Leads (outside what) t =
      step machine host n t ≡ O.ends (O.outside what (visible_line host.first_line t))
  Leads x t = ⊥
