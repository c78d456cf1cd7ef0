use Rattle.std.proofs.Common.{◌≤◌, length}
use Rattle.pt_places.specs.PlacesUpTo.{MarksFrom}
use Rattle.pt_places.proofs.marks.marks_by_place.Given as goal

abbrev pub invariant-loop-left : goal.invariant-loop-left
invariant-loop-left l = record {
  within : l.left ≤ length l.marks;
  marks : MarksFrom l.marks l.left l.count l.table.items;
}

abbrev pub decreases-loop-left : goal.decreases-loop-left
decreases-loop-left l = l.left
