use Rattle.std.proofs.Common.{◌≡◌, ◌++◌, length, reverse}
use Rattle.pt_strs.specs.Slice.{every}
use Rattle.pt_strs.proofs.subscript.push_every_back.Given as goal

abbrev pub invariant-loop-c : goal.invariant-loop-c
invariant-loop-c l = l.draft ++ every l.between l.pass (reverse l.scan) ≡ l.fn.draft ++ every l.between 0 (reverse l.fn.scan)

abbrev pub decreases-loop-c : goal.decreases-loop-c
decreases-loop-c l = length l.scan
