use Rattle.std.proofs.Common.{◌∙◌, ap}
use Rattle.pt_heap.specs.Holes.{entries_of}
use Rattle.pt_heap.proofs.HoleLemmas.{entries_of-filter}
use Rattle.pt_heap.proofs.items.settle.Goals as goal

pub returns-then-len-count-clause-entries : goal.returns-then-len-count-clause-entries
returns-then-len-count-clause-entries c = ap entries_of c.drop_holes.ensures.entries ∙ entries_of-filter c.args.items.now.entries
