use Rattle.pt_bdb.proofs.TurnLaws.{others_stay, false_counts, broken_stays, is_least}
use Rattle.pt_bdb.proofs.laws.breakpoints_have_their_turns.Goals as goal

pub returns-clause-others : goal.returns-clause-others
returns-clause-others c = others_stay

pub returns-clause-false_counts : goal.returns-clause-false_counts
returns-clause-false_counts c = false_counts

pub returns-clause-broken : goal.returns-clause-broken
returns-clause-broken c = broken_stays

pub returns-clause-least : goal.returns-clause-least
returns-clause-least c = is_least
