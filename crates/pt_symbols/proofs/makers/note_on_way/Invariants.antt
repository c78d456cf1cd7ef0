use Rattle.std.proofs.Common.{◌≡◌, ℕ, if◌then◌else◌}
use Rattle.sem_names.specs.BlockNames.{with_name}
use Rattle.sem_names.specs.Regions.{before, is_among, left_behind}
use Rattle.pt_symbols.specs.Tables.{names_in}
use Rattle.pt_symbols.proofs.makers.note_on_way.Given as goal

abbrev pub invariant-loop-left : goal.invariant-loop-left
invariant-loop-left l = (r : ℕ)
    → (if is_among (before l.left l.places.regions l.owner l.at) r then with_name (names_in l.frees r) l.name else names_in l.frees r)
    ≡ (if is_among (left_behind l.places.regions l.owner l.region) r then with_name (names_in l.fn.frees r) l.name else names_in l.fn.frees r)

abbrev pub decreases-loop-left : goal.decreases-loop-left
decreases-loop-left l = l.left
