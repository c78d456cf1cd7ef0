use Rattle.law_origins.proofs.Landing.{below_what_is_given, where_the_first_did, as_the_first_did}
use Rattle.law_origins.proofs.laws.raises_of_hooks_land_where_replies_do.Goals as goal

pub returns-clause-given : goal.returns-clause-given
returns-clause-given g c = below_what_is_given

pub returns-clause-landed : goal.returns-clause-landed
returns-clause-landed g c = where_the_first_did

pub returns-clause-left : goal.returns-clause-left
returns-clause-left g c = as_the_first_did
