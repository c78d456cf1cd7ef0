use Rattle.sem_fits.specs.fits.Block.{links_of}
use Rattle.pt_standing.specs.Names.{TellsDefaults}
use Rattle.pt_standing.proofs.ReachLemmas.{NoneBelow}
use Rattle.pt_standing.proofs.reached.misplaced.Given as goal

abbrev pub invariant-loop-at : goal.invariant-loop-at
invariant-loop-at l = TellsDefaults l.code l.defaults → NoneBelow l.block.kind (links_of l.code) l.places l.sizes l.at
