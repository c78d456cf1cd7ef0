use Rattle.pt_heap.specs.Holes.{AreHoles}
use Rattle.pt_heap.proofs.items.past_holes.Given as goal

abbrev pub invariant-loop-at : goal.invariant-loop-at
invariant-loop-at l = AreHoles l.at l.items.entries
