use Rattle.sem_fits.specs.fits.Block.{links_of}
use Rattle.pt_standing.specs.Names.{AreDistinctLists, TellsDefaults}
use Rattle.pt_standing.specs.Texts.{HasMarks}
use Rattle.pt_standing.proofs.defaults.tell_lists.Given as goal

abbrev pub invariant-loop-list : goal.invariant-loop-list
invariant-loop-list l = AreDistinctLists l.code.texts l.code.lists l.distinct
    → HasMarks l.code.texts l.ids l.marks l.by ((links_of l.code).parameters l.block)
    → TellsDefaults l.code l.fn.defaults → TellsDefaults l.code l.defaults
