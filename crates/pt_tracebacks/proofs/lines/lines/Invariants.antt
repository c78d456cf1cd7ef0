use Rattle.std.proofs.Common.{◌≡◌, ◌++◌, length, map}
use Rattle.pt_tracebacks.specs.Lines.{lines}
use Rattle.pt_tracebacks.proofs.lines.lines.Given as goal

abbrev pub invariant-loop-lines : goal.invariant-loop-lines
invariant-loop-lines l = map (λ s. s.now) l.lines.items ++ lines l.rest ≡ lines l.text

abbrev pub decreases-loop-lines : goal.decreases-loop-lines
decreases-loop-lines l = length l.rest
