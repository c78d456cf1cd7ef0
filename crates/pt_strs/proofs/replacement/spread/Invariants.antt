use Rattle.std.proofs.Common.{◌≡◌, ◌++◌, ℕ, List, length}
use Rattle.std.specs.Str.{chars}
use Rattle.pt_strs.specs.Join.{followed}
use Rattle.pt_strs.specs.Replace.{apart}
use Rattle.pt_strs.proofs.replacement.spread.Given as goal

abbrev pub invariant-loop-c : goal.invariant-loop-c
invariant-loop-c l =
    (front : List ℕ) × (l.draft ≡ front ++ chars l.new) × (front ++ followed (chars l.new) (apart l.scan) ≡ followed (chars l.new) (apart (chars l.text)))

abbrev pub decreases-loop-c : goal.decreases-loop-c
decreases-loop-c l = length l.scan
