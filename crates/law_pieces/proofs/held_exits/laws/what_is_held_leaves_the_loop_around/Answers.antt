use Rattle.law_pieces.proofs.held_exits.Holding.{lands_holding, raises_holding, starts_holding}
use Rattle.law_pieces.proofs.held_exits.laws.what_is_held_leaves_the_loop_around.Goals as goal

pub returns-clause-starts : goal.returns-clause-starts
returns-clause-starts g c = starts_holding

pub returns-clause-lands : goal.returns-clause-lands
returns-clause-lands g c = lands_holding

pub returns-clause-raises : goal.returns-clause-raises
returns-clause-raises g c = raises_holding
