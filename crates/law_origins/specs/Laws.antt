-- What the law says of the place from which a raise in a reply's place comes: of each instruction, as
-- many of the lowest slots as lay below what it took tell where it lands, once the reply is there too.
use Rattle.std.specs.Prelude.{◌≡◌, ℕ, [], ◌∷◌, length}
use Rattle.pt_instr.specs.declared.Instr.{Instr}
use Rattle.pt_code.specs.View.{Ins}
use Rattle.sem_control.specs.control.Turn as T
use Rattle.sem_control.specs.control.Turn.{Ask, Answer, Reply, got, raised, End, Turn}
use Rattle.sem_control.specs.control.Events.{answered}
use Rattle.sem_code.specs.slots.Slots.{Slot, Slots, State, on, off}
use Rattle.sem_code.specs.slots.CodeObject.{CodeObject}
use Rattle.sem_code.specs.slots.Landing.{cut}
use Rattle.sem_code.specs.slots.Instructions.{perform}
use Rattle.law_origins.specs.Landings.{lands_with}

-- something is told of an answer, so that a hook may raise there
abbrev pub IsTold : {V : Type 0} → (a : Ask V) → Answer V a → Type 0
IsTold a x = answered a x ≡ [] → ⊥

module _ {V : Type 0} (code : CodeObject V) (i : Ins) where
  -- with these slots where it is asked, and these replies: behind an answer of which something is told,
  -- where an exception has landed, and where one has left the block, a raise leads where it would have
  -- led in the reply's place
  pub record TellsLandings (ss : Slots V) (a : Ask V) (k : Reply V (Answer V a) → State V) : Type 0
    where
      pub below : Slots V
      pub lowest : cut (length below) ss ≡ below
      pub behind : (x : Answer V a) → IsTold a x → (pc : ℕ) (slots : Slots V)
          → k (got x) ≡ on pc slots → (v : V)
          → lands_with code i.rows (length below) slots v ≡ k (raised v)
      pub again : (e v : V) (pc : ℕ) (held : Slot V) (under : Slots V)
          → k (raised e) ≡ on pc (held ∷ under)
          → lands_with code i.rows (length under) (held ∷ under) v ≡ k (raised v)
      pub left : (e v : V) (end : End V) (n : ℕ) (slots : Slots V) → k (raised e) ≡ off end
          → lands_with code i.rows n slots v ≡ k (raised v)

  abbrev pub HasOrigin : Slots V → Turn (State V) V → Type 0
  HasOrigin ss (T.act m a k) = TellsLandings ss a k
  HasOrigin ss t = Unit {0}

  abbrev pub InstructionsHaveOrigins : Type 0
  InstructionsHaveOrigins = (pc : ℕ) (j : Instr) (ss : Slots V)
      → HasOrigin ss (perform code pc i j ss)
