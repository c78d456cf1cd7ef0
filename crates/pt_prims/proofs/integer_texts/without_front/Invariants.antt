use Rattle.std.proofs.Common.{◌≡◌, length}
use Rattle.pt_strs.specs.Blank.{is_blank}
use Rattle.pt_strs.specs.Strip.{without_front}
use Rattle.pt_prims.proofs.integer_texts.without_front.Given as goal

abbrev pub invariant-loop-c : goal.invariant-loop-c
invariant-loop-c l = without_front is_blank l.rest ≡ without_front is_blank l.scan

abbrev pub decreases-loop-c : goal.decreases-loop-c
decreases-loop-c l = length l.rest
