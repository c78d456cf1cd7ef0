use Rattle.std.proofs.Common.{◌≡◌, ◌++◌, length}
use Rattle.std.specs.Str.{chars}
use Rattle.pt_formats.specs.Repr.{escapes}
use Rattle.pt_formats.proofs.representation.push_escapes.Given as goal

abbrev pub invariant-loop-c : goal.invariant-loop-c
invariant-loop-c l = l.draft ++ escapes l.quote l.scan ≡ l.fn.draft ++ escapes l.quote (chars l.text)

abbrev pub decreases-loop-c : goal.decreases-loop-c
decreases-loop-c l = length l.scan
