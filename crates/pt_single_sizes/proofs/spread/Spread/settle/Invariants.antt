use Rattle.pt_sizes.specs.Waiting.{levels_of}
use Rattle.sem_fits.specs.fits.Block.{links_of}
use Rattle.pt_single_sizes.specs.Search.{GoesOn}
use Rattle.pt_single_sizes.proofs.spread.Spread.settle.Given as goal

abbrev pub invariant-loop-left : goal.invariant-loop-left
invariant-loop-left l = GoesOn (links_of l.code) l.places l.limit l.initial.self.table.items l.initial.self.work.items (levels_of l.initial.self.waiting.levels)
    l.self.table.items l.self.work.items (levels_of l.self.waiting.levels)

abbrev pub decreases-loop-left : goal.decreases-loop-left
decreases-loop-left l = l.left
