use Rattle.std.proofs.Common.{List, length}
use Rattle.pt_literals.specs.declared.source.Spot.{Spot as Char}
use Rattle.pt_lexer.specs.Lines.{Comment}
use Rattle.pt_lexer.proofs.gaps.behind_comment.Given as goal

abbrev pub invariant-loop-spot : goal.invariant-loop-spot
invariant-loop-spot l = (end : List Char) → Comment l.rest end → Comment l.text end

abbrev pub decreases-loop-spot : goal.decreases-loop-spot
decreases-loop-spot l = length l.rest
