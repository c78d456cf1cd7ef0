use Rattle.law_leads.proofs.Leading.{answers_lead, asks_lead}
use Rattle.law_leads.proofs.laws.asks_lead_and_tell_what_ended_iterators.Goals as goal

pub returns-clause-answers : goal.returns-clause-answers
returns-clause-answers g c = answers_lead

pub returns-clause-asks : goal.returns-clause-asks
returns-clause-asks g c = asks_lead
