use Rattle.std.proofs.Common.{◌≡◌, ◌++◌, ◌≤◌, ℕ, true, length, map}
use Rattle.std.specs.Str.{chars}
use Rattle.pt_strs.specs.Answer.{are_within}
use Rattle.pt_strs.specs.Cut.{pieces, all_pieces}
use Rattle.pt_strs.proofs.parts.pieces.Given as goal

abbrev pub invariant-loop-front : goal.invariant-loop-front
invariant-loop-front l =
    (most : ℕ) × (length l.scan ≤ most) × (map chars l.pieces ++ pieces most (chars l.sep) l.scan ≡ all_pieces (chars l.sep) (chars l.text)) × (are_within (map chars l.pieces) ≡ true)

abbrev pub decreases-loop-front : goal.decreases-loop-front
decreases-loop-front l = length l.scan
