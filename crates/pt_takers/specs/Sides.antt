-- On which side of a row a place lies that the row doesn't cover: the key of the row is less than the bound of the place.
use Rattle.std.specs.Prelude.{ℕ, ◌+◌, ◌-◌, Bool, nat_lt}
use Rattle.pt_ranges.specs.declared.handlers.Handler.{Handler}
use Rattle.pt_takers.specs.declared.sides.Side.{Side}
use Rattle.pt_takers.specs.declared.sides.Side.TheVariants.{Behind, Before}

-- one more than the greatest place: 2^32
abbrev pub PLACES : ℕ
PLACES = 4294967296

abbrev pub key : Side → Handler → ℕ
key Behind row = row.to.0
key Before row = PLACES - row.from.0

abbrev pub bound : Side → (target : ℕ) → ℕ
bound Behind t = t + 1
bound Before t = PLACES - t

abbrev pub is_below : Side → (bound : ℕ) → Handler → Bool
is_below side b row = nat_lt (key side row) b
