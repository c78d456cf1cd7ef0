use Rattle.std.proofs.Common.{◌≡◌, ◌++◌, length}
use Rattle.pt_strs.specs.Slice.{every}
use Rattle.pt_strs.proofs.subscript.push_every.Given as goal

abbrev pub invariant-loop-c : goal.invariant-loop-c
invariant-loop-c l = l.draft ++ every l.between l.pass l.scan ≡ l.fn.draft ++ every l.between 0 l.fn.scan

abbrev pub decreases-loop-c : goal.decreases-loop-c
decreases-loop-c l = length l.scan
