use Rattle.pt_refusals.proofs.Placing.{places_are_told, rows_listed}
use Rattle.pt_refusals.proofs.laws.a_place_is_told.Goals as goal

pub returns-clause-told : goal.returns-clause-told
returns-clause-told c = places_are_told

pub returns-clause-rows : goal.returns-clause-rows
returns-clause-rows c = rows_listed
