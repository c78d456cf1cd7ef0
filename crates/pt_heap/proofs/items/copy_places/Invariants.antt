use Rattle.std.proofs.Common.{◌≡◌, take}
use Rattle.pt_heap.proofs.items.copy_places.Given as goal

abbrev pub invariant-loop-at : goal.invariant-loop-at
invariant-loop-at l = l.copy.entries ≡ take l.at l.items.entries
