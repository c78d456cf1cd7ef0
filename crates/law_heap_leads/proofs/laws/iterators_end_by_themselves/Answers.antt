use Rattle.law_heap_leads.proofs.Ends.{iterators_end_by_themselves}
use Rattle.law_heap_leads.proofs.laws.iterators_end_by_themselves.Goals as goal

pub returns : goal.returns
returns c = iterators_end_by_themselves
