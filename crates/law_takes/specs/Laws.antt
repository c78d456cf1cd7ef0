-- What the law says of the slots that instructions take.
use Rattle.std.specs.Prelude.{◌≡◌, ◌≤◌, ◌-◌, ℕ, length, drop, List}
use Rattle.pt_ranges.specs.declared.handlers.Handler.{Handler}
use Rattle.pt_instr.specs.declared.Instr.{Instr}
use Rattle.pt_code.specs.View.{Ins}
use Rattle.sem_control.specs.control.Turn as T
use Rattle.sem_control.specs.control.Turn.{Ask, Answer, Reply, got, raised, Turn}
use Rattle.sem_code.specs.slots.Slots.{raise, Slots, State, on}
use Rattle.sem_code.specs.slots.CodeObject.{CodeObject}
use Rattle.sem_code.specs.slots.Landing.{land}
use Rattle.sem_code.specs.slots.Instructions.{perform}
use Rattle.law_origins.specs.Landings.{lands_with}
use Rattle.law_takes.specs.Taking.{taken, Gives}

module _ {V : Type 0} (code : CodeObject V) where
  module _ (i : Ins) where
    -- so many slots are taken; by those below a raise lands, also where a value was given above them
    pub record Takes (n : ℕ) (ss : Slots V) (a : Ask V) (k : Reply V (Answer V a) → State V) : Type 0
      where
        pub there : n ≤ length ss
        pub raises : (v : V) → k (raised v) ≡ land code i.rows (raise v) (drop n ss)
        pub given : Gives a → (x : Answer V a) (pc : ℕ) (slots : Slots V)
            → k (got x) ≡ on pc slots → (v : V)
            → lands_with code i.rows (length ss - n) slots v ≡ k (raised v)

    abbrev pub TakesIfAsked : ℕ → Slots V → Turn (State V) V → Type 0
    TakesIfAsked n ss (T.act m a k) = Takes n ss a k
    TakesIfAsked n ss t = Unit {0}

    abbrev pub InstructionsTake : Type 0
    InstructionsTake = (pc : ℕ) (j : Instr) (ss : Slots V)
        → TakesIfAsked (taken code.pool j) ss (perform code pc i j ss)

  -- by other slots that are as good for one raise each raise lands
  abbrev pub LandsAlike : Type 0
  LandsAlike = (rows : List Handler) (ss below : Slots V) (e v : V)
      → land code rows (raise e) ss ≡ land code rows (raise e) below
      → land code rows (raise v) ss ≡ land code rows (raise v) below
