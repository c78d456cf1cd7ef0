use Rattle.std.proofs.Common.{◌≡◌, drop, slice_get}
use Rattle.pt_heap.specs.Holes.{entries_of}
use Rattle.pt_heap.proofs.items.sparse_place.Given as goal

abbrev pub invariant-loop-at : goal.invariant-loop-at
invariant-loop-at l = slice_get (entries_of l.items.entries) l.number ≡ slice_get (entries_of (drop l.at l.items.entries)) l.left
