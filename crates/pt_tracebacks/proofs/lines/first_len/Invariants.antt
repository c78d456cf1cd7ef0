use Rattle.std.proofs.Common.{◌≡◌, ◌+◌, drop}
use Rattle.pt_tracebacks.specs.FirstLine.{first_len}
use Rattle.pt_tracebacks.proofs.lines.first_len.Given as goal

abbrev pub invariant-loop-i : goal.invariant-loop-i
invariant-loop-i l = l.i + first_len (drop l.i l.text) ≡ first_len l.text
