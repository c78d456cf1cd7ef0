use Rattle.std.proofs.Common.{◌≡◌, ℕ}
use Rattle.std.specs.Prelude.{◌||◌}
use Rattle.sem_names.specs.Regions.{before, is_among, left_behind}
use Rattle.pt_symbols.specs.RegionSets.{has_region}
use Rattle.pt_symbols.proofs.makers.note_class_on_way.Given as goal

abbrev pub invariant-loop-left : goal.invariant-loop-left
invariant-loop-left l = (r : ℕ)
    → (has_region l.classes r || is_among (before l.left l.places.regions l.class l.at) r)
    ≡ (has_region l.fn.classes r || is_among (left_behind l.places.regions l.class l.region) r)

abbrev pub decreases-loop-left : goal.decreases-loop-left
decreases-loop-left l = l.left
