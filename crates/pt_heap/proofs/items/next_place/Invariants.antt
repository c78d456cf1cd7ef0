use Rattle.std.proofs.Common.{◌≡◌, drop}
use Rattle.pt_heap.specs.Holes.{entries_of}
use Rattle.pt_heap.proofs.items.next_place.Given as goal

abbrev pub invariant-loop-at : goal.invariant-loop-at
invariant-loop-at l = entries_of (drop l.at l.items.entries) ≡ entries_of (drop l.from l.items.entries)
