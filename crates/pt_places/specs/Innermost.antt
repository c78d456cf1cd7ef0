-- The first handler row over each place, as rows are put in one after the other, inner rows first: a place keeps the first.
use Rattle.std.specs.Prelude.{◌≡◌, ℕ, ◌+◌, ◌<◌, ◌≤◌, List, length, slice_index_or, slice_set, is_some, true, not, ◌&&◌, Option, Some, None, if◌then◌else◌, find, filter}
use Rattle.std.specs.Option.{option_or}
use Rattle.pt_base.specs.declared.numbers.Pc.{Pc}
use Rattle.pt_ranges.specs.declared.handlers.Handler.{Handler}
use Rattle.pt_ranges.specs.Rows.{covers, first_over}
use Rattle.pt_places.specs.PlaceTable.{entry}

-- the table has the first of the rows that cover each of its places
abbrev pub HasFirst : List Handler → List (Option Handler) → Type 0
HasFirst rows table = (pc : Pc) → pc.0 < length table → entry table pc.0 ≡ first_over rows pc

-- the rows that take what isn't a raise too
abbrev pub always_rows : List Handler → List Handler
always_rows rows = filter (λ row. row.always) rows

-- the first of the rows over a place that doesn't cover another
abbrev pub first_left : List Handler → (pc target : Pc) → Option Handler
first_left rows pc target = find (λ row. covers row pc && not (covers row target)) rows

-- a row, where it covers the place
abbrev pub given : Handler → Pc → Option Handler
given row pc = if covers row pc then Some row else None

-- the row is put in
pub record IsPut (row : Handler) (old new : List (Option Handler)) : Type 0 where
  pub long : length new ≡ length old
  pub each : (pc : Pc) → pc.0 < length old → entry new pc.0 ≡ option_or (entry old pc.0) (given row pc)

-- it is put in at the places up to one
pub record Putting (row : Handler) (at : ℕ) (old new : List (Option Handler)) : Type 0 where
  pub long : length new ≡ length old
  pub done : (pc : Pc) → row.from.0 ≤ pc.0 → pc.0 < at → entry new pc.0 ≡ option_or (entry old pc.0) (given row pc)
  pub before : (pc : Pc) → pc.0 < row.from.0 → entry new pc.0 ≡ entry old pc.0
  pub ahead : (pc : Pc) → at ≤ pc.0 → entry new pc.0 ≡ entry old pc.0

abbrev pub filled : List (Option Handler) → (at : ℕ) → Handler → List (Option Handler)
filled table at row = slice_set table at (option_or (entry table at) (Some row))

abbrev pub AllFilled : List (Option Handler) → (from to : ℕ) → Type 0
AllFilled table from to = (pc : ℕ) → from ≤ pc → pc < to → is_some (entry table pc) ≡ true

-- each place names one from it on; all between have a row
pub record HasSkips (table : List (Option Handler)) (skips : List ℕ) : Type 0 where
  pub long : length skips ≡ length table + 1
  pub ahead : (pc : ℕ) → pc ≤ length table → pc ≤ slice_index_or skips pc 0
  pub within : (pc : ℕ) → pc ≤ length table → slice_index_or skips pc 0 ≤ length table
  pub filled : (pc : ℕ) → pc ≤ length table → AllFilled table pc (slice_index_or skips pc 0)
