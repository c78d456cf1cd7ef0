use Rattle.pt_grammar.proofs.ClauseLemmas.{first_is}
use Rattle.pt_grammar.proofs.comprehension_nodes.first_apart.Goals as goal

pub returns : goal.returns
returns c = first_is _ _ _ _ _ c.in_ok-backwards.ensures c.in-Some.ensures c.in_ok-rest.ensures
