-- Which regions are in a set of regions.
use Rattle.std.specs.Prelude.{ℕ, Bool}
use Rattle.std.specs.BTreeSet.{contains}
use Rattle.std.specs.Ordering.{nat_cmp}
use Rattle.pt_symbols.specs.declared.region_set.RegionSet.{RegionSet}

abbrev pub has_region : RegionSet → (region : ℕ) → Bool
has_region s r = contains nat_cmp s.regions r
