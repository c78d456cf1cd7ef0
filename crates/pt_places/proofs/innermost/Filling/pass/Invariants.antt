use Rattle.std.proofs.Common.{◌≡◌, ◌-◌, ◌≤◌, length}
use Rattle.pt_places.specs.Innermost.{AllFilled, HasSkips}
use Rattle.pt_places.proofs.innermost.Filling.pass.Given as goal

abbrev pub invariant-loop-at : goal.invariant-loop-at
invariant-loop-at l = record {
  table : l.self.table.items ≡ l.fn.self.table.items;
  skips : HasSkips l.fn.self.table.items l.self.skips.items;
  low : l.from ≤ l.at;
  high : l.at ≤ length l.fn.self.table.items;
  filled : AllFilled l.fn.self.table.items l.from l.at;
}

abbrev pub decreases-loop-at : goal.decreases-loop-at
decreases-loop-at l = length l.fn.self.table.items - l.at
