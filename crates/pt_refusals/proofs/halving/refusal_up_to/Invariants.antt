use Rattle.std.proofs.Common.{◌-◌, ◌≤◌}
use Rattle.sem_fits.specs.fits.Block.{Block}
use Rattle.sem_fits.specs.fits.Fits.{RefusedAt}
use Rattle.pt_refusals.specs.Laws.{FirstSearch}
use Rattle.pt_refusals.specs.Verdicts.{misfit_of}
use Rattle.pt_refusals.proofs.halving.refusal_up_to.Given as goal

abbrev pub decreases-loop-low : goal.decreases-loop-low
decreases-loop-low g l = l.high - l.low

abbrev pub invariant-loop-low : goal.invariant-loop-low
invariant-loop-low g l = record {
  order : l.low ≤ l.high;
  inside : l.high ≤ l.fn.last;
  search : (b : Block) → g.P.Probe.tells l.probe b → RefusedAt b l.fn.last (misfit_of l.fn.refusal)
      → FirstSearch b l.low l.high (misfit_of l.found);
}
