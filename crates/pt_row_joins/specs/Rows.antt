-- Places that handler rows join to their targets, and the few pairs that tell it.
use Rattle.std.specs.Prelude.{◌≡◌, ℕ, suc, zero, ◌+◌, ◌-◌, ◌<◌, List, [], ◌∷◌, ◌++◌, length, Contains, slice_index_or, is_some, nat_lt, ◌&&◌, if◌then◌else◌, true, Option, Some, None}
use Rattle.pt_ranges.specs.declared.handlers.Handler.{Handler}
use Rattle.pt_sizes.specs.Flow.{entry, is_under}
use Rattle.pt_joins.specs.declared.joins.Join.{Join}
use Rattle.pt_joins.specs.Joins.{Least}
use Rattle.pt_row_joins.specs.declared.sized.SizedPlaces.{SizedPlaces}

-- a place that has a size, and the target of a row over it that leaves more slots
pub data LandsOn (sizes : List (Option ℕ)) (rows : List Handler) (level : ℕ) : (one other : ℕ) → Type 0 where
  lands : {q n : ℕ} {row : Handler} → entry sizes q ≡ Some n → Contains rows row
      → is_under row q ≡ true → level < row.depth → row.target.0 < length sizes
      → LandsOn sizes rows level q row.target.0

abbrev pub Under : (sizes : List (Option ℕ)) → (rows : List Handler) → (level one other : ℕ) → Type 0
Under sizes rows level one other = Least (LandsOn sizes rows level) one other

abbrev pub join : (one other levels : ℕ) → Join
join one other levels = record { one = one; other = other; levels = levels }

-- a list has just these
pub record Lists (P : Join → Type 0) (joins : List Join) : Type 0 where
  pub only : (j : Join) → Contains joins j → P j
  pub all : (j : Join) → P j → Contains joins j

-- the places below one that have sizes, and how many these are
abbrev pub sized_below : (sizes : List (Option ℕ)) → (limit : ℕ) → List ℕ
sized_below sizes zero = []
sized_below sizes (suc q) =
    if is_some (entry sizes q) then sized_below sizes q ++ q ∷ [] else sized_below sizes q

abbrev pub rank : (sizes : List (Option ℕ)) → (pc : ℕ) → ℕ
rank sizes pc = length (sized_below sizes pc)

pub record AreSizedPlaces (sizes : List (Option ℕ)) (r : SizedPlaces) : Type 0 where
  pub places : r.places.items ≡ sized_below sizes (length sizes)
  pub long : length r.before.items ≡ length sizes
  pub before : (pc : ℕ) → pc < length sizes → slice_index_or r.before.items pc 0 ≡ rank sizes pc

abbrev pub nth : List ℕ → ℕ → ℕ
nth xs n = slice_index_or xs n 0

-- a row over the numbers of places, up to the last but one
abbrev pub narrowed : (sizes : List (Option ℕ)) → Handler → Handler
narrowed sizes row = record row {
  from = record { 0 = rank sizes row.from.0 };
  to = record { 0 = rank sizes row.to.0 - 1 };
}

abbrev pub narrow_row : (sizes : List (Option ℕ)) → Handler → Option Handler
narrow_row sizes row =
    if nat_lt (rank sizes row.from.0) (rank sizes row.to.0) && nat_lt row.target.0 (length sizes)
    then Some (narrowed sizes row) else None

-- a row that lies over places that have sizes, and whose target is counted
pub record IsOver (sizes : List (Option ℕ)) (row : Handler) : Type 0 where
  pub some : rank sizes row.from.0 < rank sizes row.to.0
  pub inside : row.target.0 < length sizes

pub record IsNarrowed (sizes : List (Option ℕ)) (rows : List Handler) (h : Handler) : Type 0 where
  pub row : Handler
  pub among : Contains rows row
  pub over : IsOver sizes row
  pub is : h ≡ narrowed sizes row

pub record AreNarrowed (sizes : List (Option ℕ)) (rows narrow : List Handler) : Type 0 where
  pub only : (h : Handler) → Contains narrow h → IsNarrowed sizes rows h
  pub all : (row : Handler) → Contains rows row → IsOver sizes row → Contains narrow (narrowed sizes row)

pub record IsChainBelow (places deepest : List ℕ) (limit : ℕ) (j : Join) : Type 0 where
  pub number : ℕ
  pub low : number + 1 < limit
  pub is : j ≡ join (nth places number) (nth places (number + 1)) (nth deepest number)

abbrev pub IsChain : (places deepest : List ℕ) → Join → Type 0
IsChain places deepest j = IsChainBelow places deepest (length places) j

abbrev pub landing_join : (places : List ℕ) → Handler → Option Join
landing_join places row =
    if nat_lt row.from.0 (length places)
    then Some (join (nth places row.from.0) row.target.0 row.depth) else None

pub record IsLanding (places : List ℕ) (rows : List Handler) (j : Join) : Type 0 where
  pub row : Handler
  pub among : Contains rows row
  pub is : landing_join places row ≡ Some j
