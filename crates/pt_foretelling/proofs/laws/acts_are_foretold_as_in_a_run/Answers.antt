use Rattle.pt_foretelling.proofs.Foretells.{are_foretold}
use Rattle.pt_foretelling.proofs.laws.acts_are_foretold_as_in_a_run.Goals as goal

pub returns : goal.returns
returns c = are_foretold
