use Rattle.pt_scopes.proofs.ResolveLemmas.{excluded}
use Rattle.pt_scopes.specs.Mentions.{places_script}
use Rattle.pt_scopes.proofs.laws.resolved_and_refused_exclude_one_another.Goals as goal

pub returns-clause-one : goal.returns-clause-one
returns-clause-one c = λ ss s e is refused. excluded (places_script ss) e is.no_fault refused

pub returns-clause-same : goal.returns-clause-same
returns-clause-same c = λ ss d e first second. cc
