use Rattle.pt_scopes.proofs.BlockKindLemmas.{kinds-script}
use Rattle.pt_scopes.proofs.laws.blocks_are_numbered_as_in_the_tree.Goals as goal

pub returns : goal.returns
returns c = kinds-script
