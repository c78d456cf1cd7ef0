use Rattle.pt_joins.specs.Joins.{AreAlone}
use Rattle.pt_joins.proofs.joins.alone.Given as goal

abbrev pub invariant-loop-number : goal.invariant-loop-number
invariant-loop-number l = AreAlone l.number l.nodes.items
