use Rattle.std.proofs.Common.{◌≡◌, length}
use Rattle.pt_strs.specs.Class.{has}
use Rattle.pt_strs.specs.Strip.{without_front}
use Rattle.pt_strs.proofs.scan.Scan.without_front.Given as goal

abbrev pub invariant-loop-c : goal.invariant-loop-c
invariant-loop-c l = without_front (has l.class) l.rest ≡ without_front (has l.class) l.fn.self

abbrev pub decreases-loop-c : goal.decreases-loop-c
decreases-loop-c l = length l.rest
