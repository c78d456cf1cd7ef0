use Rattle.law_additions.proofs.Additions.{operations-add}
use Rattle.law_additions.proofs.operations_of_expressions_only_add.Goals as goal

pub returns : goal.returns
returns c op args h p = operations-add op args h p
