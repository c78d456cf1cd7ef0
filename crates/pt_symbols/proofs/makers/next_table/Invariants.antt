use Rattle.std.proofs.Common.{◌≡◌, ◌≤◌, ℕ, drop, length}
use Rattle.sem_names.specs.Regions.{numbered_behind}
use Rattle.pt_symbols.specs.Tables.{next_in}
use Rattle.pt_symbols.proofs.makers.next_table.Given as goal

abbrev pub invariant-loop-at : goal.invariant-loop-at
invariant-loop-at l =
    (l.at ≤ length l.nexts)
    × ((h n : ℕ) → next_in l.table h n ≡ numbered_behind l.at (drop l.at l.places.regions) (drop l.at l.nexts) h n)

abbrev pub decreases-loop-at : goal.decreases-loop-at
decreases-loop-at l = l.at
