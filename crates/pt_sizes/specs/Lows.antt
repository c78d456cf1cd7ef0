-- The fewest slots that lie below in stretches of places, for the rows that are to leave more.
use Rattle.std.specs.Prelude.{◌≡◌, ◌⊎◌, ℕ, ◌+◌, ◌-◌, ◌*◌, ◌<◌, ◌≤◌, List, [], ◌∷◌, length, min, nat_lt, slice_index_or, if◌then◌else◌, Option, Some, None}
use Rattle.pt_sizes.specs.declared.places.Place.{Place}
use Rattle.pt_sizes.specs.Flow.{entry, left}
use Rattle.pt_sizes.specs.Waiting.{up}

-- where no size is known: 2^64 - 1
abbrev pub no_place : ℕ
no_place = 18446744073709551615

abbrev pub below_at : Option Place → Option ℕ → ℕ
below_at (Some place) (Some size) = left place size
below_at place size = no_place

-- how many slots lie below those that the instruction of a place takes, where one below the limit
-- has a size
abbrev pub below : (places : List (Option Place)) → (table : List (Option ℕ)) → (limit pc : ℕ) → ℕ
below places table limit pc =
    if nat_lt pc limit then below_at (entry places pc) (entry table pc) else no_place

abbrev pub low_at : List ℕ → (node : ℕ) → ℕ
low_at level node = slice_index_or level node no_place

-- a level has the least number of each of its stretches
pub record IsLowLevel (numbers : ℕ → ℕ) (k : ℕ) (level : List ℕ) : Type 0 where
  pub all : (q : ℕ) → low_at level (up k q) ≤ numbers q
  pub one : (v : ℕ) → (low_at level v ≡ no_place)
      ⊎ ((q : ℕ) × ((up k q ≡ v) × (numbers q ≡ low_at level v)))

pub record AreLows (numbers : ℕ → ℕ) (levels : List (List ℕ)) : Type 0 where
  pub each : (k : ℕ) → k < length levels → IsLowLevel numbers k (slice_index_or levels k [])

pub record LowsSoFar (numbers : ℕ → ℕ) (count size : ℕ) (levels : List (List ℕ))
    (level : List ℕ) : Type 0 where
  pub size_is : size ≡ up (length levels) count
  pub lows : AreLows numbers levels
  pub last : IsLowLevel numbers (length levels) level

pub record AreAllLows (numbers : ℕ → ℕ) (count : ℕ) (levels : List (List ℕ)) : Type 0 where
  pub tall : up (length levels) count ≡ 0
  pub lows : AreLows numbers levels

-- the least of the numbers of some places
pub record IsFewest (numbers : ℕ → ℕ) (from to fewest : ℕ) : Type 0 where
  pub all : (q : ℕ) → from ≤ q → q < to → fewest ≤ numbers q
  pub one : (fewest ≡ no_place)
      ⊎ ((q : ℕ) × ((from ≤ q) × ((q < to) × (numbers q ≡ fewest))))

-- the least on the levels up to one; what is left are the stretches from low up to high
pub record FewestSoFar (numbers : ℕ → ℕ) (count from to done low high fewest : ℕ) : Type 0 where
  pub sound : (q : ℕ) → low ≤ up done q → up done q < high → (from ≤ q) × (q < to)
  pub all : (q : ℕ) → from ≤ q → q < to
      → (fewest ≤ numbers q) ⊎ ((low ≤ up done q) × (up done q < high))
  pub one : (fewest ≡ no_place)
      ⊎ ((q : ℕ) × ((from ≤ q) × ((q < to) × (numbers q ≡ fewest))))
  pub small : high ≤ up done count
