use Rattle.std.proofs.Common.{◌≡◌, ℕ, length}
use Rattle.pt_strs.specs.Answer.{counted}
use Rattle.pt_formats.specs.Spec.{read_width}
use Rattle.pt_formats.proofs.spec.read_width.Given as goal

abbrev pub invariant-loop-c : goal.invariant-loop-c
invariant-loop-c l = (n : ℕ) × (l.width ≡ counted n) × (read_width n l.scan ≡ read_width 0 l.fn.scan)

abbrev pub decreases-loop-c : goal.decreases-loop-c
decreases-loop-c l = length l.scan
