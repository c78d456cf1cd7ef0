-- What laws say of code that goes ahead.
use Rattle.std.specs.Prelude.{ℕ, None}
use Rattle.sem_control.specs.control.Turn as T
use Rattle.sem_control.specs.control.Turn.{Turn, act, note, move}
use Rattle.sem_code.specs.slots.Slots.{State}
use Rattle.sem_code.specs.slots.CodeObject.{CodeObject}
use Rattle.sem_code.specs.slots.Machine.{turn}
use Rattle.sem_code.specs.slots.Destinations.{unhindered}
use Rattle.sem_code.specs.silent_turns.Ahead.{GoesAhead, turns_to_act}

-- nothing is left to be passed: no move, no note, and no unmarked ask for a value or for something to be done
abbrev pub IsAtRest : {S V : Type 0} → Turn S V → Type 0
IsAtRest (act None (T.seek a) next) = ⊥
IsAtRest (act None (T.deed a) next) = ⊥
IsAtRest (note a next) = ⊥
IsAtRest (move s) = ⊥
IsAtRest t = Unit {0}

abbrev pub ComesToRest : {V : Type 0} → CodeObject V → (size : ℕ) → Type 0
ComesToRest {V} code size = GoesAhead code size → (s : State V) → IsAtRest (turn code (unhindered code (turns_to_act size s) s))
