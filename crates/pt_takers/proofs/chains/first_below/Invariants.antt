use Rattle.std.proofs.Common.{◌-◌}
use Rattle.pt_takers.proofs.ChainLemmas.{Halving}
use Rattle.pt_takers.proofs.chains.first_below.Given as goal

abbrev pub invariant-loop-low : goal.invariant-loop-low
invariant-loop-low l = Halving l.side l.bound l.chain l.low l.high

abbrev pub decreases-loop-low : goal.decreases-loop-low
decreases-loop-low l = l.high - l.low
