use Rattle.std.proofs.Common.{◌≡◌, length}
use Rattle.std.specs.Str.{chars}
use Rattle.pt_strs.specs.Cut.{begins_with}
use Rattle.pt_text_operations.proofs.ends.begins_with.Given as goal

abbrev pub invariant-loop-c : goal.invariant-loop-c
invariant-loop-c l = begins_with l.rest l.wanted ≡ begins_with (chars l.text) (chars l.part)

abbrev pub decreases-loop-c : goal.decreases-loop-c
decreases-loop-c l = length l.wanted
