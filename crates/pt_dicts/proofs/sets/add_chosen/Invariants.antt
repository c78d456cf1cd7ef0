use Rattle.std.proofs.Common.{◌++◌, length}
use Rattle.pt_dicts.specs.Adding.{chosen}
use Rattle.pt_dicts.proofs.SetLemmas.{IsAdding}
use Rattle.pt_dicts.proofs.sets.add_chosen.Given as goal

abbrev pub invariant-loop-entry : goal.invariant-loop-entry
invariant-loop-entry l = IsAdding l.choice l.other (l.fn.to ++ chosen l.choice l.other l.from) l.to l.left

abbrev pub decreases-loop-entry : goal.decreases-loop-entry
decreases-loop-entry l = length l.left
