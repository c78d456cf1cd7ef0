-- How slots are taken from the top, and given: where one is missing or of another kind, the state is stuck.
use Rattle.std.specs.Prelude.{ℕ, zero, suc, List, ◌∷◌}
use Rattle.sem_control.specs.control.Turn.{Row, Turn, stuck}
use Rattle.sem_code.specs.slots.Slots.{Completion, Slot, value, cell, iterator, exception, pending, exit, Slots, State}

-- what goes on with what is taken and the slots below
abbrev pub Next : (V A : Type 0) → Type 0
Next V A = A → Slots V → Turn (State V) V

module _ {V : Type 0} where
  -- so many values; the first of them lies lowest
  abbrev pub values : (n : ℕ) → (above : List V) → Slots V → Next V (List V) → Turn (State V) V
  values zero vs ss next = next vs ss
  values (suc n) vs (value v ∷ ss) next = values n (v ∷ vs) ss next
  values (suc n) vs ss next = stuck

  abbrev pub cells : (n : ℕ) → (above : List V) → Slots V → Next V (List V) → Turn (State V) V
  cells zero vs ss next = next vs ss
  cells (suc n) vs (cell v ∷ ss) next = cells n (v ∷ vs) ss next
  cells (suc n) vs ss next = stuck

  -- one value, two, three
  abbrev pub one : Slots V → Next V V → Turn (State V) V
  one (value v ∷ ss) next = next v ss
  one ss next = stuck

  abbrev pub two : Slots V → (V → Next V V) → Turn (State V) V
  two (value b ∷ value a ∷ ss) next = next a b ss
  two ss next = stuck

  abbrev pub three : Slots V → (V → V → Next V V) → Turn (State V) V
  three (value c ∷ value b ∷ value a ∷ ss) next = next a b c ss
  three ss next = stuck

  abbrev pub an_iterator : Slots V → Next V V → Turn (State V) V
  an_iterator (iterator v ∷ ss) next = next v ss
  an_iterator ss next = stuck

  -- a value or an iterator
  abbrev pub movable : Slots V → Next V (Slot V) → Turn (State V) V
  movable (value v ∷ ss) next = next (value v) ss
  movable (iterator v ∷ ss) next = next (iterator v) ss
  movable ss next = stuck

  abbrev pub an_exception : Slots V → Next V V → Turn (State V) V
  an_exception (exception v ∷ ss) next = next v ss
  an_exception ss next = stuck

  abbrev pub a_completion : Slots V → Next V (Completion V) → Turn (State V) V
  a_completion (pending c ∷ ss) next = next c ss
  a_completion ss next = stuck

  abbrev pub an_exit : Slots V → Next V V → Turn (State V) V
  an_exit (exit v ∷ ss) next = next v ss
  an_exit ss next = stuck

  -- the value that stands so many slots down stays there; the uppermost slot is the first
  abbrev pub the_value : (n : ℕ) → Slots V → (V → Turn (State V) V) → Turn (State V) V
  the_value (suc zero) (value v ∷ ss) next = next v
  the_value (suc (suc n)) (s ∷ ss) next = the_value (suc n) ss next
  the_value n ss next = stuck

  -- so many values are given, the first on top
  abbrev pub giving : (n : ℕ) → Row V n → Slots V → Slots V
  giving zero u ss = ss
  giving (suc n) (v, vs) ss = value v ∷ giving n vs ss
