use Rattle.pt_kinds.proofs.ForestLemmas.{are_distinct}
use Rattle.pt_kinds.proofs.forest.lists_are_distinct.Goals as goal

pub returns : goal.returns
returns c = are_distinct
