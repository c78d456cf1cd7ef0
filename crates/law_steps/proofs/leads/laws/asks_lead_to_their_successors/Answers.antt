use Rattle.law_steps.proofs.leads.Leading.{answers_lead, asks_lead}
use Rattle.law_steps.proofs.leads.laws.asks_lead_to_their_successors.Goals as goal

pub returns-clause-answers : goal.returns-clause-answers
returns-clause-answers g c = answers_lead

pub returns-clause-asks : goal.returns-clause-asks
returns-clause-asks g c = asks_lead
