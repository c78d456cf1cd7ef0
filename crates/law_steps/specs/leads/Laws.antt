-- What laws say of where asks lead.
use Rattle.std.specs.Prelude.{ℕ, Bool}
use Rattle.sem_run.specs.run.Machine.{Machine}
use Rattle.sem_run.specs.run.Host.{Host, Answering, Finding}
use Rattle.sem_run.specs.run.State.{OpenAsk, State, answering, at, store}
use Rattle.sem_run.specs.run.Views.{here_of}
use Rattle.sem_run.specs.run.Outcome.{Question}
use Rattle.sem_run.specs.run.Step.{do_ask}
use Rattle.sem_run.specs.transitions.Transitions.{by_answer, of_open_ask}
use Rattle.sem_run.specs.transitions.Successors.{successor}
use Rattle.law_steps.specs.leads.Leads.{Leads}

module _ {S N V W : Type 0} (machine : Machine S V) (host : Host N V W) (minds : Question V → Bool)
    (n : ℕ) where
  -- an answer that goes on, and behind a request the rest of one
  abbrev pub AnswersLead : Type 0
  AnswersLead = (q : OpenAsk S V) (a : Answering N V W (Finding V q.ask)) (s : State S N V W)
      → Leads machine host minds n q (successor (by_answer q a)) (at (answering q a) s)

  -- an ask that is to be done
  abbrev pub AsksLead : Type 0
  AsksLead = (q : OpenAsk S V) (s : State S N V W)
      → Leads machine host minds n q
      (successor (of_open_ask host q (here_of machine s) (store s)))
      (do_ask machine host q.ask q.next q.is_act q.callee s)
