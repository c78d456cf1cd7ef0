use Rattle.pt_kind_flow.specs.Search.{GoesOn}
use Rattle.pt_kind_flow.proofs.flow.Flow.settle.Given as goal

abbrev pub invariant-loop-left : goal.invariant-loop-left
invariant-loop-left l = GoesOn l.initial.self l.self

abbrev pub decreases-loop-left : goal.decreases-loop-left
decreases-loop-left l = l.left
