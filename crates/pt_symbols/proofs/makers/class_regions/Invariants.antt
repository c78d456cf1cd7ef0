use Rattle.std.proofs.Common.{◌≡◌, ℕ, drop}
use Rattle.std.specs.Prelude.{◌||◌}
use Rattle.sem_names.specs.BlockNames.{has_class}
use Rattle.sem_names.specs.Script.{functions_among}
use Rattle.pt_symbols.specs.RegionSets.{has_region}
use Rattle.pt_symbols.proofs.makers.class_regions.Given as goal

abbrev pub invariant-loop-at : goal.invariant-loop-at
invariant-loop-at l = (r : ℕ)
    → (has_region l.classes r || has_class l.places.regions (functions_among (drop l.at l.blocks) (drop l.at l.regions)) r)
    ≡ has_class l.places.regions (functions_among l.blocks l.regions) r
