use Rattle.std.proofs.Common.{◌≡◌, ℕ, take}
use Rattle.sem_names.specs.Regions.{is_among}
use Rattle.pt_symbols.specs.RegionSets.{has_region}
use Rattle.pt_symbols.proofs.places.regions_among.Given as goal

abbrev pub invariant-loop-region : goal.invariant-loop-region
invariant-loop-region l = (r : ℕ) → has_region l.regions r ≡ is_among (take l.region-index l.blocks) r
