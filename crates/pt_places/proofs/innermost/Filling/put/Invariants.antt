use Rattle.std.proofs.Common.{◌-◌, ◌≤◌, length}
use Rattle.pt_places.specs.Innermost.{HasSkips, Putting}
use Rattle.pt_places.proofs.innermost.Filling.put.Given as goal

abbrev pub invariant-loop-at : goal.invariant-loop-at
invariant-loop-at l = record {
  put : Putting l.row l.at l.fn.self.table.items l.self.table.items;
  skips : HasSkips l.self.table.items l.self.skips.items;
  low : l.row.from.0 ≤ l.at;
  high : l.at ≤ length l.fn.self.table.items;
}

abbrev pub decreases-loop-at : goal.decreases-loop-at
decreases-loop-at l = length l.fn.self.table.items - l.at
