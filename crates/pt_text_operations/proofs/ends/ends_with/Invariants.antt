use Rattle.std.proofs.Common.{◌≡◌, length, reverse}
use Rattle.std.specs.Str.{chars}
use Rattle.pt_strs.specs.Cut.{begins_with}
use Rattle.pt_text_operations.proofs.ends.ends_with.Given as goal

abbrev pub invariant-loop-c : goal.invariant-loop-c
invariant-loop-c l = begins_with (reverse l.rest) (reverse l.wanted) ≡ begins_with (reverse (chars l.text)) (reverse (chars l.part))

abbrev pub decreases-loop-c : goal.decreases-loop-c
decreases-loop-c l = length l.wanted
