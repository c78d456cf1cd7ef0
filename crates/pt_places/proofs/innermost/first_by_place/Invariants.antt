use Rattle.std.proofs.Common.{take}
use Rattle.pt_places.specs.Innermost.{HasFirst, HasSkips}
use Rattle.pt_places.proofs.innermost.first_by_place.Given as goal

abbrev pub invariant-loop-row : goal.invariant-loop-row
invariant-loop-row l = record {
  first : HasFirst (take l.row-index l.rows) l.filling.table.items;
  skips : HasSkips l.filling.table.items l.filling.skips.items;
}
