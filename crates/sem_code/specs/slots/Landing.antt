-- Where a completion goes that leaves its place: to the first of the covering handler rows that takes it (Language Reference 8.4, 8.5).
use Rattle.std.specs.Prelude.{ℕ, ◌-◌, List, [], ◌∷◌, length, drop, Bool, true, false, not, ◌&&◌, if◌then◌else◌}
use Rattle.pt_ranges.specs.declared.handlers.Handler.{Handler}
use Rattle.pt_ranges.specs.Rows.{covers}
use Rattle.sem_control.specs.control.Turn.{gave, left_by}
use Rattle.sem_code.specs.slots.Slots.{Abrupt, raise, return, jump_to, by, Slot, exception, pending, Slots, State, on, off}
use Rattle.sem_code.specs.slots.CodeObject.{CodeObject}

-- the lowest slots, so many of them
abbrev pub cut : {V : Type 0} → (depth : ℕ) → Slots V → Slots V
cut d ss = drop (length ss - d) ss

-- an except row takes a raise; an always row takes everything but a jump within what it covers
abbrev pub takes : {V : Type 0} → Handler → Abrupt V → Bool
takes row (raise v) = true
takes row (return v) = row.always
takes row (jump_to t) = row.always && not (covers row (record { 0 = t }))

-- what a row holds of what it takes: an except row the exception, an always row the completion
abbrev pub held_by : {V : Type 0} → (always : Bool) → Abrupt V → Slot V
held_by false (raise v) = exception v
held_by always a = pending (by a)

module _ {V : Type 0} (code : CodeObject V) where
  -- what no row takes ends the block, or goes to its place
  abbrev pub leaves : Abrupt V → Slots V → State V
  leaves (raise v) ss = off (left_by v)
  leaves (return v) ss = off (gave v)
  leaves (jump_to t) ss = on t (cut (code.depth_at t) ss)

  abbrev pub land : List Handler → Abrupt V → Slots V → State V
  land [] a ss = leaves a ss
  land (row ∷ rows) a ss = if takes row a then on row.target.0 (held_by row.always a ∷ cut row.depth ss) else land rows a ss
