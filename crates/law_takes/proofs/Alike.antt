-- Where one exception lands alike each does.
use Rattle.std.proofs.Common.{◌≡◌, List, [], ◌∷◌, refl, ap}
use Rattle.pt_ranges.specs.declared.handlers.Handler.{Handler}
use Rattle.sem_code.specs.slots.Slots.{raise, Slots, State, on}
use Rattle.sem_code.specs.slots.CodeObject.{CodeObject}
use Rattle.sem_code.specs.slots.Landing.{cut, land, held_by}
use Rattle.law_takes.specs.Laws.{LandsAlike}

module _ {V : Type 0} where
  abbrev below_top : Slots V → Slots V
  below_top [] = []
  below_top (s ∷ ss) = ss

  abbrev slots_of : State V → Slots V
  slots_of (on pc ss) = ss
  slots_of _ = []

pub lands_alike : {V : Type 0} (code : CodeObject V) → LandsAlike code
lands_alike code [] ss below e v is = refl
lands_alike {V = V} code (row ∷ rows) ss below e v is =
    let c : cut {V = V} row.depth ss ≡ cut row.depth below = ap (λ t. below_top (slots_of t)) is in
    ap (λ us. on row.target.0 (held_by row.always (raise v) ∷ us)) c
