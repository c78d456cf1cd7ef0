use Rattle.pt_code_facts.proofs.NameLemmas.{facts_know_names}
use Rattle.pt_code_facts.proofs.laws.facts_know_the_names_of_code.Goals as goal

pub returns : goal.returns
returns c = facts_know_names
