use Rattle.std.proofs.Common.{◌≡◌, drop}
use Rattle.pt_sorting.specs.Keys.{row_before}
use Rattle.pt_sorting.proofs.keys.row_before.Given as goal

abbrev pub invariant-loop-item : goal.invariant-loop-item
invariant-loop-item l = row_before l.heap (drop l.item-index l.first) l.others ≡ row_before l.heap l.first l.second
