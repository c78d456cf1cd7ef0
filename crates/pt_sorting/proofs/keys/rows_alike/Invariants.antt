use Rattle.std.proofs.Common.{◌≡◌, drop}
use Rattle.pt_sorting.specs.Keys.{rows_alike}
use Rattle.pt_sorting.proofs.keys.rows_alike.Given as goal

abbrev pub invariant-loop-item : goal.invariant-loop-item
invariant-loop-item l = rows_alike l.heap (drop l.item-index l.first) l.others ≡ rows_alike l.heap l.first l.second
