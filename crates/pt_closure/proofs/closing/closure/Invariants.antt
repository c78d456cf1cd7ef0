use Rattle.std.proofs.Common.{List}
use Rattle.pt_closure.specs.Closure.{AreSeen, Open, Pair}
use Rattle.pt_closure.proofs.closing.closure.Given as goal

abbrev pub invariant-loop-pair : goal.invariant-loop-pair
invariant-loop-pair g l = record {
  seen : AreSeen l.found;
  known : (next : Pair → List Pair) → g.F.Follows.tells l.rule next → Open next l.fn.seeds.items l.work.items l.found.pairs.items;
}

abbrev pub decreases-loop-pair : goal.decreases-loop-pair
decreases-loop-pair g l = l.budget.left
