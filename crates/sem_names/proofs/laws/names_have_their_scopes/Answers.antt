use Rattle.pt_scopes.specs.Mentions.{places_script}
use Rattle.pt_tree.specs.Blocks.{blocks_script}
use Rattle.sem_names.proofs.AroundLemmas.{names_are_own}
use Rattle.sem_names.proofs.laws.names_have_their_scopes.Goals as goal

pub returns : goal.returns
returns g c = λ v ss b k x is. names_are_own (places_script ss) (blocks_script ss) b k x is
