use Rattle.std.specs.BinaryHeap.{heap_items}
use Rattle.pt_kind_flow.proofs.Leading.{LeadsSoFar}
use Rattle.pt_kind_flow.proofs.flow.add_led.Given as goal

abbrev pub invariant-loop-packed : goal.invariant-loop-packed
invariant-loop-packed l = LeadsSoFar l.initial.forest l.forest l.edges l.packed-index l.list (heap_items l.initial.work) (heap_items l.work)
