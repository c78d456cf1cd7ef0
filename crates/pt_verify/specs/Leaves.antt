-- Where a Leave stands.
use Rattle.std.specs.Prelude.{◌≡◌, ℕ, ◌<◌, List, Bool, true, false, Option, Some, None}
use Rattle.pt_instr.specs.declared.Instr.{Instr}
use Rattle.pt_instr.specs.declared.Instr.TheVariants.{Leave}
use Rattle.pt_places.specs.declared.places.Place.{Place}
use Rattle.pt_places.specs.PlaceTable.{entry}

abbrev leaves : Instr → Bool
leaves (Leave t) = true
leaves i = false

abbrev pub is_leave : Option Place → Bool
is_leave (Some p) = leaves p.instr
is_leave None = false

-- at one of the places below a number
pub record HasLeave (places : List (Option Place)) (end : ℕ) : Type 0 where
  pub pc : ℕ
  pub low : pc < end
  pub here : is_leave (entry places pc) ≡ true
