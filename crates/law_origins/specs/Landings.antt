-- Where a raise lands that takes the place of a reply which is there already: by the rows that cover
-- the place of the ask, with the slots that lay below what it took (Language Reference 8.4). Those
-- are the lowest of the slots that there are, so their number tells them.
use Rattle.std.specs.Prelude.{◌≡◌, ℕ, List, ◌∷◌, ◌++◌, length}
use Rattle.pt_ranges.specs.declared.handlers.Handler.{Handler}
use Rattle.sem_control.specs.control.Turn.{End}
use Rattle.sem_code.specs.slots.Slots.{raise, Slot, Slots, State, on, off}
use Rattle.sem_code.specs.slots.CodeObject.{CodeObject}
use Rattle.sem_code.specs.slots.Landing.{cut, land}

module _ {V : Type 0} (code : CodeObject V) (rows : List Handler) where
  -- with so many of the slots that are there
  abbrev pub lands_with : (below : ℕ) → Slots V → V → State V
  lands_with n ss v = land code rows (raise v) (cut n ss)

  -- what the reply gave lies above them
  abbrev pub LandsBelowWhatIsGiven : Type 0
  LandsBelowWhatIsGiven = (given below : Slots V) (v : V)
      → lands_with (length below) (given ++ below) v ≡ land code rows (raise v) below

  -- or a first exception has landed, which is held above the slots of its row
  abbrev pub LandsWhereTheFirstDid : Type 0
  LandsWhereTheFirstDid = (below under : Slots V) (held : Slot V) (pc : ℕ) (e v : V)
      → land code rows (raise e) below ≡ on pc (held ∷ under)
      → lands_with (length under) (held ∷ under) v ≡ land code rows (raise v) below

  -- or it has left the block, whatever slots are left then
  abbrev pub LeavesAsTheFirstDid : Type 0
  LeavesAsTheFirstDid = (below slots : Slots V) (n : ℕ) (end : End V) (e v : V)
      → land code rows (raise e) below ≡ off end
      → lands_with n slots v ≡ land code rows (raise v) below
