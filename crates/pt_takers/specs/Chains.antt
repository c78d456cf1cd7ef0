-- Of rows in their order those whose keys are less than all before.
use Rattle.std.specs.Prelude.{◌≡◌, ℕ, ◌-◌, ◌≤◌, List, [], ◌∷◌, ◌++◌, length, find, slice_get, Bool, true, if◌then◌else◌, Option, Some, None}
use Rattle.pt_ranges.specs.declared.handlers.Handler.{Handler}
use Rattle.pt_takers.specs.declared.sides.Side.{Side}
use Rattle.pt_takers.specs.Sides.{key, is_below}

abbrev pub Falls : Side → List Handler → Type 0
Falls side rows = (i j : ℕ) (r s : Handler) → i ≤ j → slice_get rows i ≡ Some r
    → slice_get rows j ≡ Some s → key side s ≤ key side r

-- the first row below any bound is in the chain
pub record IsChain (side : Side) (rows chain : List Handler) : Type 0 where
  pub first : (bound : ℕ) → find (is_below side bound) chain ≡ find (is_below side bound) rows
  pub falls : Falls side chain

abbrev pub is_lower : Side → (last : Option Handler) → Handler → Bool
is_lower side None row = true
is_lower side (Some last) row = is_below side (key side last) row

abbrev pub add_lower : Side → (chain : List Handler) → Handler → List Handler
add_lower side chain row =
    if is_lower side (slice_get chain (length chain - 1)) row then chain ++ row ∷ [] else chain
