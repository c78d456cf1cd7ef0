use Rattle.pt_strs.proofs.SliceLemmas.{drop-next}
use Rattle.pt_strs.proofs.scan.Scan.skip.Goals as goal

pub loop-turn-preserved : goal.loop-turn-preserved
loop-turn-preserved c = drop-next _ c.loop-turn._turn _ _ c.next.result c.loop-turn.invariant c.next.ensures
