use Rattle.std.proofs.Common.{◌≡◌, ℕ, take}
use Rattle.std.specs.Prelude.{◌&&◌, slice_get}
use Rattle.std.specs.List.{list_any}
use Rattle.sem_names.specs.BlockNames.{is_class_of}
use Rattle.pt_symbols.specs.RegionSets.{has_region}
use Rattle.pt_symbols.proofs.makers.class_makers.Given as goal

abbrev pub invariant-loop-region : goal.invariant-loop-region
invariant-loop-region l = (h : ℕ) → has_region l.makers h
    ≡ list_any (λ c. is_class_of l.places.regions h (slice_get l.places.regions c) && has_region l.classes c) (take l.region-index l.blocks)
