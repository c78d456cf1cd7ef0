use Rattle.std.proofs.Common.{◌≡◌, ◌+◌, ◌≤◌, ℕ, length}
use Rattle.std.specs.Str.{chars}
use Rattle.pt_strs.specs.Answer.{counted}
use Rattle.pt_strs.specs.Cut.{pieces, all_pieces}
use Rattle.pt_strs.specs.Join.{joined}
use Rattle.pt_strs.proofs.replacement.replaced_len.Given as goal

abbrev pub invariant-loop-front : goal.invariant-loop-front
invariant-loop-front l =
    (most : ℕ) × (length l.scan ≤ most) × (counted (l.sum + length (joined (chars l.new) (pieces most (chars l.old) l.scan))) ≡ counted (length (joined (chars l.new) (all_pieces (chars l.old) (chars l.text)))))

abbrev pub decreases-loop-front : goal.decreases-loop-front
decreases-loop-front l = length l.scan
