use Rattle.sem_fits.specs.fits.Block.{links_of}
use Rattle.pt_kind_failures.proofs.Looking.{Looked}
use Rattle.pt_kind_failures.proofs.lacking.any_lacks.Given as goal

abbrev pub invariant-loop-at : goal.invariant-loop-at
invariant-loop-at l = Looked l.initial.forest l.forest (links_of l.code) l.lists l.places l.at
