use Rattle.std.proofs.Common.{◌≡◌, take}
use Rattle.pt_heap.proofs.heap.HeapDup.dup.Given as goal

abbrev pub invariant-loop-object : goal.invariant-loop-object
invariant-loop-object l = l.objects.items ≡ take l.object-index l.object-items
