-- What the law says of where asks lead and what is told there.
use Rattle.std.specs.Prelude.{ℕ, Bool, Option}
use Rattle.sem_run.specs.run.Machine.{Machine}
use Rattle.sem_run.specs.run.Host.{Host, Here, Store, Answering, Finding}
use Rattle.sem_run.specs.run.State.{OpenAsk, State, answering, at, store}
use Rattle.sem_run.specs.run.Views.{here_of}
use Rattle.sem_run.specs.run.Outcome.{Question}
use Rattle.sem_run.specs.run.Step.{do_ask}
use Rattle.sem_run.specs.transitions.Transitions.{by_answer, of_open_ask}
use Rattle.sem_run.specs.transitions.Successors.{successor}
use Rattle.law_leads.specs.Leads.{AnswersSo, in_run, Leads}

module _ {C S N V W : Type 0} (machine : Machine S V) (host : Host N V W)
    (minds : Question V → Bool) (n : ℕ) (ends : Option V → Bool) (embed : C → S) where
  -- an answer that goes on, and behind a request the rest of one
  abbrev pub AnswersLead : Type 0
  AnswersLead = (q : OpenAsk C V) (a : Answering N V W (Finding V q.ask)) (s : State S N V W)
      → AnswersSo ends q.ask a
      → Leads machine host minds n ends embed q (successor (by_answer q a))
      (at (answering (in_run embed q) a) s)

  -- an ask that is to be done
  abbrev pub AsksLead : Type 0
  AsksLead = (q : OpenAsk C V) (s : State S N V W)
      → ((h : Here V) (st : Store N W) → AnswersSo ends q.ask (host.answers q.ask h st))
      → Leads machine host minds n ends embed q
      (successor (of_open_ask host q (here_of machine s) (store s)))
      (do_ask machine host q.ask (λ r. embed (q.next r)) q.is_act q.callee s)
