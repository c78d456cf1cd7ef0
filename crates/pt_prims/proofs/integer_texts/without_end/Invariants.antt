use Rattle.std.proofs.Common.{◌≡◌, length}
use Rattle.pt_strs.specs.Blank.{is_blank}
use Rattle.pt_strs.specs.Strip.{without_end}
use Rattle.pt_prims.proofs.integer_texts.without_end.Given as goal

abbrev pub invariant-loop-c : goal.invariant-loop-c
invariant-loop-c l = without_end is_blank l.rest ≡ without_end is_blank l.scan

abbrev pub decreases-loop-c : goal.decreases-loop-c
decreases-loop-c l = length l.rest
