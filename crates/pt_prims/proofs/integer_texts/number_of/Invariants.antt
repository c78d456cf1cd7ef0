use Rattle.std.proofs.Common.{◌≡◌, ℕ, false, length}
use Rattle.pt_prims.specs.IntegerTexts.{number_behind, saturated}
use Rattle.pt_prims.proofs.integer_texts.number_of.Given as goal

abbrev pub invariant-loop-c : goal.invariant-loop-c
invariant-loop-c l =
    (n : ℕ) × (l.number ≡ saturated n) × (number_behind n l.behind_digit l.scan ≡ number_behind 0 false l.fn.scan)

abbrev pub decreases-loop-c : goal.decreases-loop-c
decreases-loop-c l = length l.scan
