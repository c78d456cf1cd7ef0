use Rattle.std.proofs.Common.{◌≡◌, ◌+◌, ◌-◌, ◌++◌}
use Rattle.pt_sequences.specs.Unpacking.{integers_from}
use Rattle.pt_sequences.proofs.unpacking.integers.Given as goal

abbrev pub invariant-loop-place : goal.invariant-loop-place
invariant-loop-place l = l.items ++ integers_from l.range (l.first + l.place) (l.count - l.place) ≡ integers_from l.range l.first l.count
