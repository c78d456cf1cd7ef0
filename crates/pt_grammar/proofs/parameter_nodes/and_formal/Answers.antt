use Rattle.pt_grammar.proofs.parameter_nodes.and_formal.Goals as goal

pub returns-in-KeywordOnly : goal.returns-in-KeywordOnly
returns-in-KeywordOnly c = rw c.in-KeywordOnly.is c.and_keyword_only.ensures

pub returns-in-Plain : goal.returns-in-Plain
returns-in-Plain c = rw c.in-Plain.is c.and_positional.ensures

pub returns-in-Defaulted : goal.returns-in-Defaulted
returns-in-Defaulted c = rw c.in-Defaulted.is c.and_positional-in-Defaulted.ensures

pub returns-in-Over : goal.returns-in-Over
returns-in-Over c = rw c.in-Over.is c.and_positional-in-Over.ensures
