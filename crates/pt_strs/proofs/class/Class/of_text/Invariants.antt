use Rattle.std.proofs.Common.{◌≡◌, ◌==◌, ◌||◌, ℕ, length}
use Rattle.std.specs.Str.{chars}
use Rattle.std.specs.List.{list_any}
use Rattle.std.specs.BTreeSet.{contains}
use Rattle.std.specs.Ordering.{nat_cmp}
use Rattle.pt_strs.proofs.class.Class.of_text.Given as goal

abbrev pub invariant-loop-c : goal.invariant-loop-c
invariant-loop-c l = (c : ℕ) → contains nat_cmp l.set c || list_any (λ d. d == c) l.scan ≡ list_any (λ d. d == c) (chars l.text)

abbrev pub decreases-loop-c : goal.decreases-loop-c
decreases-loop-c l = length l.scan
