use Rattle.pt_names.proofs.PlaceLemmas.{stands_for, keeps}
use Rattle.pt_names.proofs.laws.a_place_stands_for_its_name.Goals as goal

pub returns-clause-stands : goal.returns-clause-stands
returns-clause-stands c = stands_for

pub returns-clause-keeps : goal.returns-clause-keeps
returns-clause-keeps c = keeps
