use Rattle.std.proofs.Common.{◌≡◌, length}
use Rattle.pt_literals.specs.Source.{is_blank}
use Rattle.pt_strs.specs.Strip.{without_front}
use Rattle.pt_tracebacks.proofs.lines.without_front.Given as goal

abbrev pub invariant-loop-rest : goal.invariant-loop-rest
invariant-loop-rest l = without_front is_blank l.rest ≡ without_front is_blank l.line

abbrev pub decreases-loop-rest : goal.decreases-loop-rest
decreases-loop-rest l = length l.rest
